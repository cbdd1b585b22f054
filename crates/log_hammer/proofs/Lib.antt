mod Submissions

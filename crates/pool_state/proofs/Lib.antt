mod Due
mod Jobs
mod Kept
mod Opened
mod Outcomes
mod Startds

use Rattle.job_launch.proofs.launch.launch_of.Goals as goal

pub returns : goal.returns
returns c = λ i. record {
  program = c.in_ok-text_under.ensures i;
  words = c.in_ok-launch_words.ensures i;
  folder = c.in_ok-text_under-2.ensures i;
  input = c.in_ok-text_under-3.ensures i;
  output = c.in_ok-text_under-4.ensures i;
  errors = c.in_ok-text_under-5.ensures i;
}

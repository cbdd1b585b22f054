use Rattle.pool_config.proofs.file.Reading.new.Goals as goal

pub returns : goal.returns
returns c = λ i. record { settings = c.in_ok-new.ensures i; table = c.new-2.ensures i }

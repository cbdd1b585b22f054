use Rattle.pool_config.proofs.name.is_job_attribute.Goals as goal

pub returns : goal.returns
returns c = c.is_among.ensures

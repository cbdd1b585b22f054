use Rattle.pool_store.proofs.Openings.{largest_in_each}
use Rattle.pool_store.proofs.laws.new_boot_is_the_largest_in_each_image.Goals as goal

pub returns : goal.returns
returns c = largest_in_each

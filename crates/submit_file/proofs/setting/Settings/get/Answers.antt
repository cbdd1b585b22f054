use Rattle.std.proofs.Common.{◌∙◌, ap, slice_get}
use Rattle.submit_file.proofs.Places.{found_at, lent, place_of}
use Rattle.submit_file.proofs.setting.Settings.get.Goals as goal

pub returns : goal.returns
returns c =
    lent c.deref.result.now c.place.result c.get.result c.get.ensures.lookup
    ∙ (λ i. slice_get (c.deref.ensures.value i) (c.place.ensures.value i))
    ∙ ap (λ ss. slice_get ss (place_of c.args.name.now c.args.self.now)) c.self.view_is
    ∙ found_at c.args.name.now c.args.self.now c.requires

-- The ad of a job in the making, and the refusal with the least line so far.
use Rattle.std.specs.Prelude.{ℕ, List, Option, Some, None, Result, Ok, Err}
use Rattle.std.specs.Option.{option_map}
use Rattle.ad_tree.specs.declared.tree.Expr.{Expr}
use Rattle.ad_tree.specs.Tree.{Tree, tree}
use Rattle.ad_tree.specs.Ad.{Attributes}
use Rattle.submit_lines.specs.declared.error.ValueError.{ValueError}
use Rattle.submit_lines.specs.JobAds.{added, finished}
use Rattle.submit_file.specs.declared.draft.Draft.{Draft}
use Rattle.submit_file.specs.declared.draft.Place.{Place}
use Rattle.submit_file.specs.declared.error.SubmitError.{SubmitError}
use Rattle.submit_file.specs.declared.error.SubmitError.TheVariants as error
use Rattle.submit_file.specs.Errors.{earlier, error_at}

pub record JobDraft : Type 0 where
  pub ad : Option Attributes
  pub refusal : Option SubmitError

-- what the program keeps of it
abbrev pub draft_of : Draft → JobDraft
draft_of d = record { ad = d.ad.ad; refusal = d.refusal }

abbrev pub with_given : List ℕ → Tree → JobDraft → JobDraft
with_given x e d = record { ad = added x e d.ad; refusal = d.refusal }

abbrev pub with_refusal : SubmitError → JobDraft → JobDraft
with_refusal f d = record { ad = d.ad; refusal = earlier f d.refusal }

-- what a value gives: an attribute, nothing, or a refusal
abbrev pub taken : List ℕ → Place → Result (Option Tree) ValueError → JobDraft → JobDraft
taken x p (Ok (Some e)) d = with_given x e d
taken x p (Ok None) d = d
taken x p (Err f) d = with_refusal (error_at f p) d

-- what a value is, apart from where it lies in memory
abbrev pub value_of : Result (Option Expr) ValueError → Result (Option Tree) ValueError
value_of (Ok e) = Ok (option_map tree e)
value_of (Err f) = Err f

-- what there is for an attribute: a name and a value, or a refusal of its macros
pub data Effect : Type 0 where
  named_value : List ℕ → Place → Result (Option Tree) ValueError → Effect
  macro_refusal : SubmitError → Effect

abbrev pub with_effect : Effect → JobDraft → JobDraft
with_effect (named_value x p v) d = taken x p v d
with_effect (macro_refusal f) d = with_refusal f d

-- the ad, if nothing was refused and there is room
abbrev pub with_room : ℕ → Option Attributes → Result Attributes SubmitError
with_room n (Some ad) = Ok ad
with_room n None = Err (error.Full n)

abbrev pub ad_or : ℕ → Option Attributes → Option SubmitError → Result Attributes SubmitError
ad_or n ad (Some f) = Err f
ad_or n ad None = with_room n (finished ad)

abbrev pub ad_of : ℕ → JobDraft → Result Attributes SubmitError
ad_of n d = ad_or n d.ad d.refusal

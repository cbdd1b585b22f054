-- What a job is started with, of its ad (HTCondor manual, Job ClassAd Attributes, Cmd, Iwd, In,
-- Out, Err, Arguments and Args).
use Rattle.std.specs.Prelude.{ℕ, Bool, true, false, List, [], ◌∷◌, Option, Some, is_some, unwrap_or, if◌then◌else◌}
use Rattle.ad_value.specs.Content.{text}
use Rattle.ad_value.specs.declared.names.job.TheConstants.{CMD, ARGS, ARGUMENTS, IWD, IN, OUT, ERR}
use Rattle.ad_tree.specs.Ad.{Attributes, lookup}
use Rattle.ad_tree.specs.Tree.{Tree, literal}
use Rattle.line_text.specs.Words.{words_of}
use Rattle.pool_outer.specs.declared.spawner.Launch.{Launch}

-- the string of an expression, empty where that is no literal string, or is not there
abbrev pub literal_text : Option Tree → List ℕ
literal_text (Some (literal (text s))) = s
literal_text _ = []

abbrev pub literal_string : Attributes → List ℕ → List ℕ
literal_string ad name = literal_text (lookup name ad)

-- no words where a single quote is not closed
abbrev pub words_under : Attributes → List ℕ → Bool → List (List ℕ)
words_under ad name quoted = unwrap_or (words_of quoted (literal_string ad name)) []

-- the words of Arguments, whatever it is, where the ad has it, and else those of Args
abbrev pub launch_words : Attributes → List (List ℕ)
launch_words ad = if is_some (lookup ARGUMENTS.now ad)
    then words_under ad ARGUMENTS.now true
    else words_under ad ARGS.now false

abbrev pub launch_of : Attributes → Launch
launch_of ad = record {
  program = literal_string ad CMD.now;
  words = launch_words ad;
  folder = literal_string ad IWD.now;
  input = literal_string ad IN.now;
  output = literal_string ad OUT.now;
  errors = literal_string ad ERR.now;
}

-- what a launch is made of
abbrev pub launch_names : List (List ℕ)
launch_names =
    CMD.now ∷ IWD.now ∷ IN.now ∷ OUT.now ∷ ERR.now
    ∷ ARGUMENTS.now ∷ ARGS.now ∷ []

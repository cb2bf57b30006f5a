-- What is read of a tree, and how it is judged.
use Rattle.std.specs.Prelude.{◌≡◌, length, Result, Ok, Err}
use Rattle.pv_values.specs.declared.block.BlockKind.TheVariants.{Request, Reply}
use Rattle.cfg_tree.specs.declared.raw.RawScript.{RawScript}
use Rattle.cfg_tree.specs.declared.script.Script.{Script}
use Rattle.cfg_tree.specs.Refusals.{Refusal, IsFirst}
use Rattle.cfg_tree.specs.Settings.{settings_of}
use Rattle.cfg_tree.specs.Checks.{refusals_of, bodies_of, unnamed, IsAccepted}
use Rattle.cfg_check.specs.declared.script.Read.{Read}

-- each part is what the definitions say of the tree
pub record IsRead (raw : RawScript) (read : Read) : Type 0 where
  pub refusals_are : read.refusals ≡ refusals_of raw
  pub settings_are : read.settings ≡ settings_of raw.items
  pub blocks_are : read.blocks ≡ (bodies_of raw).value
  pub request_is : read.request ≡ unnamed Request raw
  pub reply_is : read.reply ≡ unnamed Reply raw
  pub vars_are : read.vars ≡ length (bodies_of raw).seen.vars
  pub patterns_are : read.patterns.items ≡ (bodies_of raw).seen.patterns

-- the tree is accepted as this script, or this is its first refusal
abbrev pub IsJudged : RawScript → Result Script Refusal → Type 0
IsJudged raw (Ok script) = IsAccepted raw script
IsJudged raw (Err refusal) = IsFirst (refusals_of raw) refusal

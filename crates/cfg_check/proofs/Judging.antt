-- A tree of which nothing is refused was read as a script.
use Rattle.std.proofs.Common.{◌≡◌, [], Option, Some, None, sym, ◌∙◌}
use Rattle.cfg_tree.specs.declared.raw.RawScript.{RawScript}
use Rattle.cfg_tree.specs.declared.script.Script.{Script}
use Rattle.cfg_tree.specs.Checks.{refusals_of, script_of}
use Rattle.cfg_check.proofs.ValuedScripts.{unrefused_stands}

pub unrefused_is_read : (raw : RawScript) (script : Option Script) → refusals_of raw ≡ [] → script ≡ script_of raw → script ≡ None → ⊥
unrefused_is_read raw script none is missing =
    let stands = unrefused_stands raw none in
    let both : None ≡ Some stands.0 = sym missing ∙ is ∙ stands.1 in
    absurd (cc)

use Rattle.std.proofs.Common.{◌∙◌, ap, sym, is_some}
use Rattle.cfg_tree.specs.Functions.{is_same_block}
use Rattle.cfg_calls.specs.Heads.{shown}
use Rattle.cfg_calls.proofs.Numbering.{any_found}
use Rattle.cfg_calls.proofs.index.BlockIndex.has.Goals as goal

pub returns : goal.returns
returns c = c.is_some.ensures ∙ ap is_some c.place.ensures ∙ sym (any_found (is_same_block (shown c.args.head.now)) c.args.self.now)

-- The words of each command.
use Rattle.std.proofs.Common.{sym, refl, ◌∙◌, ap, arith}
use Rattle.std.specs.Prelude.{codes}
use Rattle.std.proofs.lemmas.Slice.Eq.{bytes_eq-Decides}
use Rattle.proxy_top.specs.Commands.{words_of}
use Rattle.proxy_top.proofs.Items.{two, three}
use Rattle.proxy_top.proofs.command.read_command.Goals as goal

pub returns-in-len2-clause-found : goal.returns-in-len2-clause-found
returns-in-len2-clause-found c =
    let words = two c.args.words.now c.command-item.result c.script-item.result
    (omega arith) (omega arith) c.command-item.is c.script-item.is in
    let check = (bytes_eq-Decides c.as_str.result.now (codes "check")).0 (sym c.if-eq.ensures) in
    ap words_of words ∙ rw (← c.as_str.ensures.value, ← c.as_str-in-len2.ensures.value, check) refl

pub returns-in-len3-clause-found : goal.returns-in-len3-clause-found
returns-in-len3-clause-found c =
    let words = three c.args.words.now c.command-item-then-words-lt4.result c.script-item-then-words-lt4.result c.scenario-item.result
    (omega arith) (omega arith) c.command-item-then-words-lt4.is c.script-item-then-words-lt4.is c.scenario-item.is in
    let sim = (bytes_eq-Decides c.as_str-then-words-lt4.result.now (codes "sim")).0 (sym c.if-eq-2.ensures) in
    ap words_of words ∙ rw (← c.as_str-then-words-lt4.ensures.value, ← c.as_str-in-len3.ensures.value, ← c.as_str-in-len3-2.ensures.value, sim) refl

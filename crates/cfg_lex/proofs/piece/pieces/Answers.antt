use Rattle.std.proofs.Common.{◌≡◌, ◌∙◌, ap, sym, arith, Some, None, option_map}
use Rattle.cfg_lex.specs.Pieces.{piece_shown}
use Rattle.cfg_lex.proofs.PieceLaw.{piece_next, piece_none, piece_end}
use Rattle.cfg_lex.proofs.piece.pieces.Goals as goal

pub returns-in_default : goal.returns-in_default
returns-in_default c =
    let none : c.in_ok-piece.field-0 ≡ None = cc in
    piece_none c.args.text.now c.loop-at.at c.loop-at.pieces.items c.loop-at-test.true
    (ap (λ o. option_map piece_shown o) (sym none) ∙ c.in_ok-piece.ensures.value) c.loop-at.invariant

pub loop-at-preserved : goal.loop-at-preserved
loop-at-preserved c =
    let some : c.in_ok-piece.field-0 ≡ Some (c.in-Some.piece, c.in-Some.len) = cc in
    piece_next c.args.text.now c.loop-at.at c.in-Some.len c.loop-at.pieces.items c.push.new.self.items c.in-Some.piece c.loop-at-test.true
    (ap (λ o. option_map piece_shown o) (sym some) ∙ c.in_ok-piece.ensures.value) c.in_ok-push.ensures.items c.loop-at.invariant

pub returns : goal.returns
returns c =
    let past = c.loop-at-test.false in
    piece_end c.args.text.now c.loop-at.at c.loop-at.pieces.items (omega (arith, past)) c.loop-at.invariant

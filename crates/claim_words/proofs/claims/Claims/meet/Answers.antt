use Rattle.std.proofs.Common.{◌≡◌, ◌+◌, ℕ, length, arith, ap, sym, ◌∙◌}
use Rattle.claim_words.specs.Suspensions.{suspensions}
use Rattle.claim_words.specs.Claims.{met}
use Rattle.claim_words.proofs.Items.{item_below}
use Rattle.claim_words.proofs.Rule.{learns}
use Rattle.claim_words.proofs.Seats.{meets}
use Rattle.claim_words.proofs.claims.Claims.meet.Goals as goal

pub join_seat-requires : goal.join_seat-requires
join_seat-requires c = let n = c.args.self.now.count in let l = c.args.self.now.some_slot in (c.requires.own.0.0, c.requires.note, c.args.note.free, (omega arith), meets _ _ _ c.args.opener.now.seat.me.0 _ c.args.note.seat.me.0 c.requires.own.0.2 c.args.note.kind)

pub load-requires : goal.load-requires
load-requires c = let e = c.join_seat.ensures in let n = c.args.self.now.count in let l = c.requires.own.1 in (e.0 ∙ c.requires.own.0.0, (omega arith), learns _ _ _ _ _ c.join_seat.new.seat.me (ap (λ z. z.0.kind) e.2 ∙ c.requires.own.0.2) (ap (λ z. z.0.number) e.2 ∙ c.requires.own.0.3) l)

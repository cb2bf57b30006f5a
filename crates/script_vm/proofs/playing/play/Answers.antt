use Rattle.std.proofs.Common.{◌≡◌, ◌+◌, ◌<◌, length, drop, get_or, [], ◌∷◌, refl, subst, sym, ap, ◌∙◌, arith, add-one, drop-cons}
use Rattle.std.proofs.lemmas.List.{drop_all}
use Rattle.cfg_tree.specs.Meaning.{meaning}
use Rattle.script_vm.proofs.Plays.{IsOn, on_more, on_needs, on_ends}
use Rattle.script_vm.proofs.playing.play.Goals as goal

pub answers-init : goal.answers-init
answers-init c = record { patterns = c.in-Ok.ensures ∙ ap (λ l. l.patterns) c.loaded.view_is; within = omega arith; on = λ script stands. record { inner = _; waits = c.in-Ok-begin.ensures.waits script stands; same = refl } }

pub returns-then-taken-answers : goal.returns-then-taken-answers
returns-then-taken-answers c = λ script stands.
    let none : drop c.answers.taken c.args.answers.now ≡ [] = drop_all c.answers.taken c.args.answers.now c.if-taken-answers.true in
    on_needs _ c.answers.run c.advance.new.self c.answers.answer c.in-Ok-copied.ask c.args.answers.now (drop c.answers.taken c.args.answers.now) _ none (c.answers.invariant.on script stands)
    (c.in-Asks.ensures.next c.answers.invariant.patterns) (c.in-Ok-copied.ensures ∙ c.asked.ensures.shows)

pub returns-in-Ended : goal.returns-in-Ended
returns-in-Ended c = λ script stands.
    on_ends _ c.answers.run c.advance.new.self c.answers.answer _ _ c.args.answers.now c.answers.taken _ (c.answers.invariant.on script stands)
    (c.in-Ended.ensures.next c.answers.invariant.patterns) c.close-env.ensures.end.0 c.close-env.ensures.end.1

pub answers-preserved : goal.answers-preserved
answers-preserved c =
    let answers = c.args.answers.now in
    let taken = c.answers.taken in
    let x = c.index-answers-taken.result in
    let more = drop (taken + 1) answers in
    let h : taken < length answers = omega arith in
    let first : drop taken answers ≡ get_or answers taken x ∷ more = rw (add-one, drop-cons answers taken x h) in
    let next : drop taken answers ≡ c.in-Ok-answer_copy.copy ∷ more = first ∙ ap (λ y. y ∷ more) (sym c.index-answers-taken.is ∙ sym c.in-Ok-answer_copy.ensures) in
    record {
      patterns = c.in-Asks.ensures.same ∙ c.answers.invariant.patterns;
      within = omega arith;
      on = λ script stands.
          let whole = meaning script c.args.block c.args.env answers in
          on_more _ c.answers.run c.advance.new.self c.answers.answer c.in-Ok-answer_copy.copy _ whole
          (subst (λ rest. IsOn c.args.loaded.now c.answers.run c.answers.answer rest whole) next (c.answers.invariant.on script stands))
          (c.in-Asks.ensures.next c.answers.invariant.patterns);
    }

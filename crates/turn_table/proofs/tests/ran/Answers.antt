use Rattle.std.proofs.Common.{◌≡◌, ℕ, ◌<◌, map, get_or, length, take, drop, ◌++◌, refl, sym, ap, subst, ◌∙◌, arith}
use Rattle.std.proofs.Math.Seq.{take-append_seam}
use Rattle.turn_table.specs.declared.tests.Worker.{Worker}
use Rattle.turn_table.specs.Tables.{id_of, fixed_of}
use Rattle.turn_table.specs.Passes.{IsPass, HoldsNone, AreAllPasses}
use Rattle.turn_table.proofs.Tested.{each_seated, all_seated_on}
use Rattle.turn_table.proofs.tests.ran.Goals as goal

pub run_all-requires-clause-own : goal.run_all-requires-clause-own
run_all-requires-clause-own g c κs within =
    subst (λ (ws : _). (i : _) (d : Worker) → i < length ws → IsPass (id_of c.args.turns.now) (fixed_of c.args.turns.now) (get_or ws i d).pass × HoldsNone (get_or ws i d).pass) (sym (c.as_mut_slice.ensures.value ∙ c.in_ok-workers.ensures))
    (each_seated (λ p. record { pass = p; rounds = 840 }) (λ w. w.pass) (λ p. refl) (id_of c.args.turns.now) (fixed_of c.args.turns.now) _ c.args.passes.items c.requires.passes)

pub returns : goal.returns
returns g c =
    let new = c.run_all.new.workers in
    let workers = c.in_ok-workers.workers in
    let l : workers.len ≡ length new = let a = workers.ok.0 in let b = c.run_all.ensures.count in let v = ap length c.as_mut_slice.ensures.value in omega arith in
    let items = ap (λ (n : ℕ). take n (new ++ drop (length new) workers.items)) l ∙ take-append_seam new _ in
    let old = c.as_mut_slice.ensures.value ∙ c.in_ok-workers.ensures in
    subst (λ ps. AreAllPasses (id_of c.args.turns.now) (fixed_of c.args.turns.now) ps) (sym (c.in_ok-passes.ensures ∙ ap (λ ws. map (λ w. w.pass) ws) items))
    (all_seated_on (λ p. record { pass = p; rounds = 840 }) (λ w. w.pass) (λ p. refl) (id_of c.args.turns.now) (fixed_of c.args.turns.now) _ c.args.passes.items new c.requires.passes c.requires.some
    (c.run_all.ensures.count ∙ ap length old) (λ i d less. rw (sym old) (c.run_all.ensures.on i d (rw old less))))

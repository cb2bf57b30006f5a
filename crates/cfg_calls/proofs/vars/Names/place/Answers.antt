use Rattle.std.proofs.Common.{◌≡◌, ◌∙◌, ap, sym, map}
use Rattle.std.specs.List.{position_or_len}
use Rattle.std.specs.Str.{bytes_eq}
use Rattle.cfg_calls.specs.Names.{place_of, with_name}
use Rattle.cfg_calls.proofs.Numbering.{place_map, names_map}
use Rattle.cfg_calls.proofs.vars.Names.place.Goals as goal
use Rattle.cfg_calls.proofs.vars.Names.place.Goals.{in-Ok, in-Err}

pub returns-clause-place : goal.returns-clause-place
returns-clause-place c = elim c.match-insert_full.branch [
  | in-Ok w ↦ rw w.result-is (w.in-Ok.ensures.index
      ∙ ap (λ n. position_or_len (λ y. bytes_eq n y.items) c.self.inside.set.keys) c.in_ok-from_slice.ensures.items
      ∙ place_map (λ k. k.items) c.args.name.now c.self.inside.set.keys ∙ ap (place_of c.args.name.now) c.self.view_is)
  | in-Err w ↦ rw w.result-is tt
]

pub returns-clause-names : goal.returns-clause-names
returns-clause-names c = elim c.match-insert_full.branch [
  | in-Ok w ↦ rw w.result-is (ap (map (λ k. k.items)) w.in-Ok.ensures.keys
      ∙ names_map (λ k. k.items) c.self.inside.set.keys c.in_ok-from_slice.field-0
      ∙ ap (λ n. with_name n (map (λ k. k.items) c.self.inside.set.keys)) c.in_ok-from_slice.ensures.items
      ∙ ap (with_name c.args.name.now) c.self.view_is)
  | in-Err w ↦ rw w.result-is tt
]

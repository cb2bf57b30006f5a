-- What was read of a scenario is in order, and each of its datagrams is short.
use Rattle.std.proofs.Common.{◌≡◌, ℕ, ◌≤◌, List, [], ◌∷◌, ◌++◌, refl, sym, ◌∙◌, subst, arith, length-append, None}
use Rattle.std.specs.Prelude.{All, unwrap_or}
use Rattle.std.proofs.Math.ListN.{get_or-append}
use Rattle.std.proofs.lemmas.List.Elements.{All-push}
use Rattle.outside_ports.specs.declared.port.Arrival.{Arrival}
use Rattle.outside_ports.specs.MemPort.{IsInOrder, IsShort}
use Rattle.sim_text.specs.declared.line.Line.{Line}
use Rattle.sim_text.specs.declared.line.Line.TheVariants.{Host, In, Text, Hex, End, Skipped}
use Rattle.sim_text.specs.Scenario.{State, last_moment, GoesOn, Takes, nothing_read}
use Rattle.sim_text.proofs.Drafts.{last_moment_push}

in_order_le : (xs : List Arrival) (m n : ℕ) → IsInOrder xs m → last_moment xs ≤ n → IsInOrder xs n
in_order_le [] m n h l = tt
in_order_le (a ∷ []) m n h l = l
in_order_le (a ∷ (b ∷ rest)) m n h l = (h.0, in_order_le (b ∷ rest) m n h.1 l)

in_order_push : (xs : List Arrival) (a : Arrival) (m n : ℕ) → IsInOrder xs m → last_moment xs ≤ a.at → a.at ≤ n → IsInOrder (xs ++ a ∷ []) n
in_order_push [] a m n h l k = k
in_order_push (x ∷ []) a m n h l k = (l, k)
in_order_push (x ∷ (y ∷ rest)) a m n h l k = (h.0, in_order_push (y ∷ rest) a m n h.1 l k)

in_order_replace : (before : List Arrival) (a b : Arrival) (n : ℕ) → IsInOrder (before ++ a ∷ []) n → b.at ≡ a.at → IsInOrder (before ++ b ∷ []) n
in_order_replace [] a b n h e = rw e h
in_order_replace (x ∷ []) a b n h e = (rw e h.0, rw e h.1)
in_order_replace (x ∷ (y ∷ rest)) a b n h e = (h.0, in_order_replace (y ∷ rest) a b n h.1 e)

-- no datagram is later than this
abbrev upper : State → ℕ
upper s = unwrap_or s.end (last_moment s.arrivals)

pub record IsSound (s : State) : Type 0 where
  pub in_order : IsInOrder s.arrivals (upper s)
  pub short : All IsShort s.arrivals
  pub day : unwrap_or s.end 0 ≤ 86400000

pub sound_nothing : IsSound nothing_read
sound_nothing = record { in_order = tt; short = λ k d h. absurd (omega arith); day = omega arith }

-- all but the last, and the last of a list
all_front : (before : List Arrival) (a : Arrival) → All IsShort (before ++ a ∷ []) → All IsShort before
all_front before a h =
    λ k d l. subst IsShort (get_or-append before (a ∷ []) d k l) (h k d (omega (arith, length-append before (a ∷ []))))

replaced : (old : State) (before : List Arrival) (a b : Arrival) → old.end ≡ None → b.at ≡ a.at → IsShort b
    → IsSound (record old { arrivals = before ++ a ∷ [] }) → IsSound (record old { arrivals = before ++ b ∷ [] })
replaced old before a b none e short h = record {
  in_order =
      let ordered : IsInOrder (before ++ a ∷ []) (last_moment (before ++ a ∷ [])) = rw none at h.in_order in
      let moved = in_order_replace before a b (last_moment (before ++ a ∷ [])) ordered e in
      let same = last_moment_push before a ∙ sym e ∙ sym (last_moment_push before b) in
      let P : ℕ → Type 0 = λ n. IsInOrder (before ++ b ∷ []) n in
      rw none (subst P same moved);
  short = All-push IsShort before b (all_front before a h.short) short;
  day = h.day;
}

sound_goes_on : (old : State) (more : List ℕ) (new : State) → IsSound old → GoesOn old more new → IsSound new
sound_goes_on old more new h t =
    let before = t.0 in
    let a = t.1 in
    let longer : Arrival = record a { bytes = a.bytes ++ more } in
    let there : IsSound (record old { arrivals = before ++ a ∷ [] }) =
    let P : List Arrival → Type 0 = λ xs. IsSound (record old { arrivals = xs }) in subst P t.3 h in
    rw t.5 (replaced old before a longer t.2 refl (omega (arith, t.4, length-append a.bytes more)) there)

pub sound_takes : (old : State) (line : Line) (new : State) → IsSound old → Takes old line new → IsSound new
sound_takes old Skipped new h t = rw t h
sound_takes old (Host name address) new h t =
    rw t.2 (record { in_order = h.in_order; short = h.short; day = h.day })
sound_takes old (In at from) new h t =
    rw t.2 (record {
      in_order =
          let ordered : IsInOrder old.arrivals (last_moment old.arrivals) = rw t.0 at h.in_order in
          let next : Arrival = record { at = at; from = from; bytes = [] } in
          rw (t.0, last_moment_push old.arrivals next)
          (in_order_push old.arrivals next (last_moment old.arrivals) at ordered t.1 (omega arith));
      short = All-push IsShort old.arrivals _ h.short (omega arith);
      day = h.day;
    })
sound_takes old (Text text) new h t = sound_goes_on old (text.now ++ 13 ∷ 10 ∷ []) new h t
sound_takes old (Hex digits) new h t = sound_goes_on old t.0 new h t.2
sound_takes old (End at) new h t =
    rw t.3 (record {
      in_order =
          let ordered : IsInOrder old.arrivals (last_moment old.arrivals) = rw t.0 at h.in_order in
          in_order_le old.arrivals (last_moment old.arrivals) at ordered t.1;
      short = h.short;
      day = t.2;
    })

-- The best of the kept responses so far.
use Rattle.std.proofs.Common.{◌≡◌, ℕ, ◌+◌, ◌<◌, ◌≤◌, ◌⊎◌, inl, inr, Option, Some, None, length, sym, ◌∙◌, ap, subst, arith}
use Rattle.std.proofs.lemmas.List.{get_or_past}
use Rattle.std.specs.Option.{MatchOption}
use Rattle.fork_core.specs.declared.context.Context.{Context}
use Rattle.fork_core.specs.declared.context.BranchMark.TheVariants.{Open, Kept}
use Rattle.fork_core.specs.Responses.{BranchResponse, History, FirstFinal, IsKeptNow}
use Rattle.fork_core.specs.Preference.{Preferred, IsBetterCode, group_of, place_in_class}
use Rattle.fork_core.specs.Preference.Preferred.{by_class, by_place, by_code, by_branch}
use Rattle.fork_core.specs.Choices.{IsBest}
use Rattle.fork_core.specs.Histories.{HasHistory, branch_count, branch_mark}
use Rattle.fork_core.proofs.Finals.{first_unique}
use Rattle.fork_core.proofs.Standing.{mark_of_kept, kept_at, same_or}

-- the order of two responses by numbers
unfoldable pub Before : (g p c b g' p' c' b' : ℕ) → Type 0
Before g p c b g' p' c' b' = (g < g') ⊎ ((g ≡ g') × ((p < p') ⊎ ((p ≡ p') × ((c < c') ⊎ ((c ≡ c') × (b < b'))))))

pub to_before : (c b d e : ℕ) → Preferred c b d e → Before (group_of c) (place_in_class c) c b (group_of d) (place_in_class d) d e
unfolding Before
to_before c b d e (by_class h) = inl h
to_before c b d e (by_place g h) = inr (g, inl h)
to_before c b d e (by_code g p h) = inr (g, inr (p, inl h))
to_before c b d e (by_branch is h) = inr (ap group_of is, inr (ap place_in_class is, inr (is, h)))

pub from_before : (c b d e : ℕ) → Before (group_of c) (place_in_class c) c b (group_of d) (place_in_class d) d e → Preferred c b d e
unfolding Before
from_before c b d e (inl h) = by_class h
from_before c b d e (inr (g, inl h)) = by_place g h
from_before c b d e (inr (g, inr (p, inl h))) = by_code g p h
from_before c b d e (inr (g, inr (p, inr (is, h)))) = by_branch is h

before_irreflexive : (g p c b : ℕ) → Before g p c b g p c b → ⊥
unfolding Before
before_irreflexive g p c b (inl h) = omega arith
before_irreflexive g p c b (inr (_, inl h)) = omega arith
before_irreflexive g p c b (inr (_, inr (_, inl h))) = omega arith
before_irreflexive g p c b (inr (_, inr (_, inr (_, h)))) = omega arith

before_transitive : (g p c b g' p' c' b' g'' p'' c'' b'' : ℕ) → Before g p c b g' p' c' b' → Before g' p' c' b' g'' p'' c'' b'' → Before g p c b g'' p'' c'' b''
unfolding Before
before_transitive g p c b g' p' c' b' g'' p'' c'' b'' x y = grind arith

before_total : (g p c b g' p' c' b' : ℕ) → (b ≡ b' → ⊥) → Before g p c b g' p' c' b' ⊎ Before g' p' c' b' g p c b
unfolding Before
before_total g p c b g' p' c' b' other = grind arith

pub irreflexive : (c b : ℕ) → Preferred c b c b → ⊥
irreflexive c b h = before_irreflexive _ _ _ _ (to_before c b c b h)

pub transitive : (c b d e f g : ℕ) → Preferred c b d e → Preferred d e f g → Preferred c b f g
transitive c b d e f g h k = from_before c b f g (before_transitive _ _ _ _ _ _ _ _ _ _ _ _ (to_before c b d e h) (to_before d e f g k))

pub total : (c b d e : ℕ) → (b ≡ e → ⊥) → Preferred c b d e ⊎ Preferred d e c b
total c b d e other =
    elim (before_total (group_of c) (place_in_class c) c b (group_of d) (place_in_class d) d e other) [
      | inl h ↦ inl (from_before c b d e h)
      | inr h ↦ inr (from_before d e c b h)
    ]

-- the order of codes alone
of_code : (c b d e : ℕ) → IsBetterCode c d → Preferred c b d e
of_code c b d e (inl h) = by_class h
of_code c b d e (inr (g, inl h)) = by_place g h
of_code c b d e (inr (g, inr (p, h))) = by_code g p h

not_of_code : (c b d e : ℕ) → (IsBetterCode c d → ⊥) → e < b → Preferred c b d e → ⊥
not_of_code c b d e not later (by_class h) = not (inl h)
not_of_code c b d e not later (by_place g h) = not (inr (g, inl h))
not_of_code c b d e not later (by_code g p h) = not (inr (g, inr (p, h)))
not_of_code c b d e not later (by_branch is h) = omega arith

-- the best of the branches below n, of this round
pub record Leads (c : Context) (n branch code : ℕ) : Type 0 where
  pub current : c.first ≤ branch
  pub below : branch < n
  pub mark : branch_mark c branch ≡ Kept code
  pub leads : (k d : ℕ) → c.first ≤ k → k < n → branch_mark c k ≡ Kept d → Preferred d k code branch → ⊥

abbrev pub BestBelow : Context → ℕ → Option (ℕ × ℕ) → Type 0
BestBelow c n None = (k d : ℕ) → c.first ≤ k → k < n → branch_mark c k ≡ Kept d → ⊥
BestBelow c n (Some x) = Leads c n x.0 x.1

pub best_none : (c : Context) → BestBelow c c.first None
best_none c = λ k d low high is. absurd (omega arith)

below_or : (k n : ℕ) → k < n + 1 → (k < n) ⊎ (k ≡ n)
below_or k n h = grind arith

kept_is : (d e : ℕ) → Kept d ≡ Kept e → d ≡ e
kept_is d e is = cc

pub best_skip : (c : Context) (n : ℕ) (best : Option (ℕ × ℕ)) → BestBelow c n best → ((d : ℕ) → branch_mark c n ≡ Kept d → ⊥) → BestBelow c (n + 1) best
best_skip c n None b not = λ k d low high is. elim (below_or k n high) [ inl h ↦ b k d low h is | inr e ↦ not d (subst (λ j. branch_mark c j ≡ Kept d) e is) ]
best_skip c n (Some x) b not =
    record {
      current = b.current;
      below = omega (arith, b.below);
      mark = b.mark;
      leads = λ k d low high is. elim (below_or k n high) [ inl h ↦ b.leads k d low h is | inr e ↦ λ p. not d (subst (λ j. branch_mark c j ≡ Kept d) e is) ];
    }

-- the new one leads where it goes before the best so far, or there was none
new_leads : (c : Context) (n code : ℕ) → c.first ≤ n → branch_mark c n ≡ Kept code →
    ((k d : ℕ) → c.first ≤ k → k < n → branch_mark c k ≡ Kept d → Preferred d k code n → ⊥) → Leads c (n + 1) n code
new_leads c n code low is old =
    record {
      current = low;
      below = omega arith;
      mark = is;
      leads = λ k d low' high is'.
          elim (below_or k n high) [
            | inl h ↦ old k d low' h is'
            | inr e ↦ λ p.
                let same : d ≡ code = kept_is d code (sym (subst (λ j. branch_mark c j ≡ Kept d) e is') ∙ is) in
                irreflexive code n (subst (λ j. Preferred code j code n) e (subst (λ x. Preferred x k code n) same p))
          ];
    }

pub best_more : (c : Context) (n code : ℕ) (best : Option (ℕ × ℕ)) (r : ℕ × ℕ) → BestBelow c n best → c.first ≤ n → branch_mark c n ≡ Kept code →
    MatchOption best (r ≡ (n, code)) (λ x. (IsBetterCode code x.1 × (r ≡ (n, code))) ⊎ ((¬ IsBetterCode code x.1) × (r ≡ x))) → BestBelow c (n + 1) (Some r)
best_more c n code None r b low is e =
    let P : ℕ × ℕ → Type 0 = λ x. Leads c (n + 1) x.0 x.1 in subst P (sym e) (new_leads c n code low is (λ k d low' h is' p. b k d low' h is'))
best_more c n code (Some x) r b low is (inl e) =
    let P : ℕ × ℕ → Type 0 = λ y. Leads c (n + 1) y.0 y.1 in
    subst P (sym e.1) (new_leads c n code low is (λ k d low' h is' p. b.leads k d low' h is' (transitive d k code n x.1 x.0 p (of_code code n x.1 x.0 e.0))))
best_more c n code (Some x) r b low is (inr e) =
    let P : ℕ × ℕ → Type 0 = λ y. Leads c (n + 1) y.0 y.1 in
    subst P (sym e.1)
    (record {
      current = b.current;
      below = omega (arith, b.below);
      mark = b.mark;
      leads = λ k d low' high is'.
          elim (below_or k n high) [
            | inl h ↦ b.leads k d low' h is'
            | inr f ↦ λ p.
                let same : d ≡ code = kept_is d code (sym (subst (λ j. branch_mark c j ≡ Kept d) f is') ∙ is) in
                not_of_code code n x.1 x.0 e.0 b.below (subst (λ j. Preferred code j x.1 x.0) f (subst (λ y. Preferred y k x.1 x.0) same p))
          ];
    })

-- a mark stands within the branches
inside : (c : Context) (k d : ℕ) → branch_mark c k ≡ Kept d → k < branch_count c
inside c k d is =
    elim (in_or k (branch_count c)) [
      | inl h ↦ h
      | inr out ↦ let none : branch_mark c k ≡ Open = get_or_past c.marks.items k Open out in absurd (cc)
    ]
  where
    in_or : (k n : ℕ) → (k < n) ⊎ (n ≤ k)
    in_or k n = grind arith

pub best_found : (c : Context) (h : History) (n : ℕ) (x : ℕ × ℕ) → HasHistory c h → branch_count c ≤ n → BestBelow c n (Some x) →
    (a : BranchResponse) × (a.branch ≡ x.0) × IsBest h a
best_found c h n x s whole b =
    let in_x : x.0 < length h.branches = subst (λ l. x.0 < l) s.count (inside c x.0 x.1 b.mark) in
    let k = kept_at c h s x.0 x.1 in_x b.mark in (
      k.response,
      k.branch,
      record {
        kept = record { kept = k.kept; now = k.round ∙ (s.current x.0 in_x).0 b.current };
        best = λ other now p.
            let m = mark_of_kept c h s other now.kept in
            let low : c.first ≤ other.branch = (s.current other.branch m.0).1 (sym m.2 ∙ now.now) in
            let high : other.branch < branch_count c = subst (λ l. other.branch < l) (sym s.count) m.0 in
            b.leads other.branch other.code low (omega arith) m.1
            (subst (λ d. Preferred other.code other.branch d x.0) k.code_is (subst (λ e. Preferred other.code other.branch k.response.code e) k.branch p));
      },
    )

pub best_missing : (c : Context) (h : History) (n : ℕ) → HasHistory c h → branch_count c ≤ n → BestBelow c n None → (a : BranchResponse) → ¬ IsKeptNow h a
best_missing c h n s whole b a now =
    let m = mark_of_kept c h s a now.kept in
    let low : c.first ≤ a.branch = (s.current a.branch m.0).1 (sym m.2 ∙ now.now) in
    let high : a.branch < branch_count c = subst (λ l. a.branch < l) (sym s.count) m.0 in
    b a.branch a.code low (omega arith) m.1

-- there is one best response
pub one_best : (h : History) (a b : BranchResponse) → IsBest h a → IsBest h b → a ≡ b
one_best h a b x y =
    elim (same_or a.branch b.branch) [
      | inl e ↦ first_unique a.branch h.responses a b x.kept.kept.counts (subst (λ k. FirstFinal k h.responses b) (sym e) y.kept.kept.counts)
      | inr n ↦
          elim (total a.code a.branch b.code b.branch n) [
            | inl p ↦ absurd (y.best a x.kept p)
            | inr p ↦ absurd (x.best b y.kept p)
          ]
    ]

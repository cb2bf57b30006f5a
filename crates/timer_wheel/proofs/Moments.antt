-- Where a moment stands among the lists of the wheel.
use Rattle.std.proofs.Common.{◌≡◌, ◌≢◌, ℕ, zero, suc, ◌+◌, ◌-◌, ◌*◌, ◌/◌, ◌%◌, ◌^◌, ◌<◌, ◌≤◌, refl, sym, ap, ◌∙◌, subst, ⊎_elim, arith, pow-suc}
use Rattle.std.proofs.lemmas.Bool.{cases_eq, cases_lt}
use Rattle.std.proofs.lemmas.Bool.Decides.{nat_tests}
use Rattle.timer_wheel.specs.Levels.{level_list, list_at}

same_level : (n last due : ℕ) → due / 256 ≡ last / 256 → level_list (suc n) last due ≡ due % 256
same_level n last due e = grind (arith, nat_tests)

next_level : (n last due : ℕ) → due / 256 ≢ last / 256 → level_list (suc n) last due ≡ 256 + level_list n (last / 256) (due / 256)
next_level n last due e = grind (arith, nat_tests)

by_level : (P : ℕ → Type 0) (n last due : ℕ) → (due / 256 ≡ last / 256 → P (due % 256)) → (due / 256 ≢ last / 256 → P (256 + level_list n (last / 256) (due / 256))) → P (level_list (suc n) last due)
by_level P n last due a b = ⊎_elim (λ e. subst P (sym (same_level n last due e)) (a e)) (λ e. subst P (sym (next_level n last due e)) (b e)) (cases_eq (due / 256) (last / 256))

quotient_rises : (a b : ℕ) → a ≤ b → a / 256 ≤ b / 256
quotient_rises a b l = omega arith

-- a later moment stands in no earlier list
pub level_list_rises : (n last due later : ℕ) → last ≤ due → due ≤ later → level_list n last due ≤ level_list n last later
level_list_rises zero last due later a b = omega arith
level_list_rises (suc n) last due later a b =
    let q = quotient_rises last due a in let r = quotient_rises due later b in
    by_level (λ x. x ≤ level_list (suc n) last later) n last due
    (λ e. by_level (λ y. due % 256 ≤ y) n last later (λ f. omega arith) (λ f. omega arith))
    (λ e. by_level (λ y. 256 + level_list n (last / 256) (due / 256) ≤ y) n last later (λ f. absurd (omega arith))
    (λ f. let h = level_list_rises n (last / 256) (due / 256) (later / 256) q r in omega arith))

-- a moment that stands in another list than `now` does from `last` on, stands in the same list from `now` on
pub level_list_stays : (n last now due : ℕ) → last ≤ now → now ≤ due → level_list n last due ≢ level_list n last now → level_list n now due ≡ level_list n last due
level_list_stays zero last now due a b m = refl
level_list_stays (suc n) last now due a b m =
    let q = quotient_rises last now a in let r = quotient_rises now due b in
    ⊎_elim
    (λ e. ⊎_elim
    (λ f. same_level n now due f ∙ sym (same_level n last due (f ∙ e)))
    (λ f. next_level n now due f ∙ (ap (λ x. 256 + level_list n x (due / 256)) e ∙ sym (next_level n last due (λ g. f (g ∙ sym e)))))
    (cases_eq (due / 256) (now / 256)))
    (λ e.
    let g : due / 256 ≢ last / 256 = λ h. e (omega arith) in
    let one = next_level n last due g in let two = next_level n last now e in
    ⊎_elim
    (λ f. absurd (m (one ∙ (ap (λ x. 256 + level_list n (last / 256) x) f ∙ sym two))))
    (λ f. let h = level_list_stays n (last / 256) (now / 256) (due / 256) q r (λ i. m (one ∙ (ap (λ x. 256 + x) i ∙ sym two))) in
    next_level n now due f ∙ (ap (λ x. 256 + x) h ∙ sym one))
    (cases_eq (due / 256) (now / 256)))
    (cases_eq (now / 256) (last / 256))

low_level : (n last due : ℕ) → level_list (suc n) last due < 256 → due / 256 ≡ last / 256
low_level n last due l = ⊎_elim (λ e. e) (λ e. absurd (let f = next_level n last due e in omega arith)) (cases_eq (due / 256) (last / 256))

-- two moments of one list of the lowest level are one moment
low_is_one : (n last now due : ℕ) → last ≤ now → now ≤ due → level_list n last due ≡ level_list n last now → level_list n last now < 256 → due < 256 ^ n → due ≡ now
low_is_one zero last now due a b e l z = omega arith
low_is_one (suc n) last now due a b e l z =
    let f = low_level n last now l in let g = low_level n last due (omega arith) in
    let h = same_level n last now f in let i = same_level n last due g in omega arith

-- one that stands in the list of `now`, above the lowest level, stands in an earlier list from `now` on
pub level_list_falls : (n last now due : ℕ) → last ≤ now → now ≤ due → level_list n last due ≡ level_list n last now → 256 ≤ level_list n last now
    → due < 256 ^ n → level_list n now due < level_list n last now
level_list_falls zero last now due a b m l z = absurd (omega arith)
level_list_falls (suc n) last now due a b m l z =
    let q = quotient_rises last now a in let r = quotient_rises now due b in
    let y : due < 256 ^ n * 256 = subst (λ x. due < x) (pow-suc 256 n) z in let w : due / 256 < 256 ^ n = omega arith in
    ⊎_elim
    (λ e. absurd (let f = same_level n last now e in omega arith))
    (λ e.
    let g : due / 256 ≢ last / 256 = λ h. e (omega arith) in
    let one = next_level n last due g in let two = next_level n last now e in
    ⊎_elim
    (λ f. let h = same_level n now due f in omega arith)
    (λ f. let h = next_level n now due f in let same : level_list n (last / 256) (due / 256) ≡ level_list n (last / 256) (now / 256) = omega arith in
    ⊎_elim
    (λ low. absurd (f (low_is_one n (last / 256) (now / 256) (due / 256) q r same low w)))
    (λ high. let i = level_list_falls n (last / 256) (now / 256) (due / 256) q r same high w in omega arith)
    (cases_lt (level_list n (last / 256) (now / 256)) 256))
    (cases_eq (due / 256) (now / 256)))
    (cases_eq (now / 256) (last / 256))

-- so many levels have so many lists
pub level_list_within : (n last due : ℕ) → last < 256 ^ suc n → due < 256 ^ suc n → level_list (suc n) last due < 256 * suc n
level_list_within zero last due a b = let e : due / 256 ≡ last / 256 = omega arith in let f = same_level zero last due e in omega arith
level_list_within (suc n) last due a b =
    let c : last < 256 ^ suc n * 256 = subst (λ x. last < x) (pow-suc 256 (suc n)) a in let d : due < 256 ^ suc n * 256 = subst (λ x. due < x) (pow-suc 256 (suc n)) b in
    let q : last / 256 < 256 ^ suc n = omega arith in let r : due / 256 < 256 ^ suc n = omega arith in
    by_level (λ x. x < 256 * suc (suc n)) (suc n) last due (λ e. omega arith) (λ e. let h = level_list_within n (last / 256) (due / 256) q r in omega arith)

-- ---- lists of moments

before : (last due : ℕ) → due < last → list_at last due ≡ 2047 - level_list 8 (18446744073709551615 - last) (18446744073709551615 - due)
before last due l = grind (arith, nat_tests)

from_last : (last due : ℕ) → last ≤ due → list_at last due ≡ 2048 + level_list 8 last due
from_last last due l = grind (arith, nat_tests)

-- a later moment stands in no earlier list
pub list_at_rises : (last due later : ℕ) → due ≤ later → list_at last due ≤ list_at last later
list_at_rises last due later l = ⊎_elim
    (λ a. let b = before last due a in ⊎_elim
    (λ m. let c = before last later m in
    let d = level_list_rises 8 (18446744073709551615 - last) (18446744073709551615 - later) (18446744073709551615 - due) (omega arith) (omega arith) in omega arith)
    (λ m. let c = from_last last later m in omega arith)
    (cases_lt later last))
    (λ a. let b = from_last last due a in let c = from_last last later (omega arith) in let d = level_list_rises 8 last due later a l in omega arith)
    (cases_lt due last)

-- a moment of an earlier list is before it
pub list_at_tells : (last due later : ℕ) → list_at last due < list_at last later → due < later
list_at_tells last due later l = ⊎_elim (λ a. a) (λ a. absurd (let b = list_at_rises last later due a in omega arith)) (cases_lt due later)

pub list_at_stays : (last now due : ℕ) → last ≤ now → now ≤ due → list_at last due ≢ list_at last now → list_at now due ≡ list_at last due
list_at_stays last now due a b m =
    let c = from_last now due b in let d = from_last last due (omega arith) in let e = from_last last now a in
    let h = level_list_stays 8 last now due a b (λ f. m (d ∙ (ap (λ x. 2048 + x) f ∙ sym e))) in
    c ∙ (ap (λ x. 2048 + x) h ∙ sym d)

pub list_at_falls : (last now due : ℕ) → last ≤ now → now ≤ due → list_at last due ≡ list_at last now → 2304 ≤ list_at last now → due < 2 ^ 64 → list_at now due < list_at last now
list_at_falls last now due a b m l z =
    let c = from_last now due b in let d = from_last last due (omega arith) in let e = from_last last now a in
    let h = level_list_falls 8 last now due a b (omega arith) (omega arith) z in omega arith

-- those of the lowest level stay where they are
pub list_at_lowest : (last now due : ℕ) → last ≤ now → now ≤ due → list_at last due ≡ list_at last now → list_at last now < 2304 → list_at now due ≡ list_at last due
list_at_lowest last now due a b m l =
    let c = from_last now due b in let d = from_last last due (omega arith) in let e = from_last last now a in
    let f = low_level 7 last now (omega arith) in
    let g = low_level 7 last due (omega arith) in
    let h = same_level 7 last now f in let i = same_level 7 last due g in
    let j : due / 256 ≡ now / 256 = omega arith in let k = same_level 7 now due j in omega arith

-- the search for the level of a moment, when it has come to this list
pub record ComesTo (first_last first_due last due list : ℕ) : Type 0 where
  pub levels : ℕ
  pub some : 0 < levels
  pub last_within : last < 256 ^ levels
  pub due_within : due < 256 ^ levels
  pub rising : last ≤ due
  pub lists_left : list + 256 * levels ≡ 2048
  pub is : level_list 8 first_last first_due ≡ list + level_list levels last due

pub starts_at : (last due : ℕ) → last < 2 ^ 64 → due < 2 ^ 64 → last ≤ due → ComesTo last due last due 0
starts_at last due a b l = record { levels = 8; some = omega arith; last_within = a; due_within = b; rising = l; lists_left = refl; is = omega arith }

more_levels : (n last due : ℕ) → 0 < n → last ≤ due → due < 256 ^ n → due / 256 ≢ last / 256 → (m : ℕ) × (n ≡ suc (suc m))
more_levels zero last due s r l n = absurd (omega arith)
more_levels (suc zero) last due s r l n = absurd (n (omega arith))
more_levels (suc (suc m)) last due s r l n = (m, refl)

module _ (first_last first_due last due list : ℕ) (c : ComesTo first_last first_due last due list) where
  pub goes_up : due / 256 ≢ last / 256 → ComesTo first_last first_due (last / 256) (due / 256) (list + 256)
  goes_up n =
      let m = more_levels c.levels last due c.some c.rising c.due_within n in
      let a : last < 256 ^ suc m.0 * 256 = subst (λ x. last < x) (ap (λ x. 256 ^ x) m.1 ∙ pow-suc 256 (suc m.0)) c.last_within in
      let b : due < 256 ^ suc m.0 * 256 = subst (λ x. due < x) (ap (λ x. 256 ^ x) m.1 ∙ pow-suc 256 (suc m.0)) c.due_within in
      let r = c.rising in let left = c.lists_left in let e = m.1 in
      let is : level_list 8 first_last first_due ≡ list + level_list (suc (suc m.0)) last due = c.is ∙ ap (λ x. list + level_list x last due) m.1 in
      let up = next_level (suc m.0) last due n in
      record {
        levels = suc m.0;
        some = omega arith;
        last_within = omega arith;
        due_within = omega arith;
        rising = quotient_rises last due r;
        lists_left = omega arith;
        is = is ∙ (ap (λ x. list + x) up ∙ omega arith);
      }

  lowest_of : (n : ℕ) → c.levels ≡ n → 0 < n → due / 256 ≡ last / 256 → level_list 8 first_last first_due ≡ list + due % 256
  lowest_of zero e s f = absurd (omega arith)
  lowest_of (suc n) e s f = c.is ∙ (ap (λ x. list + level_list x last due) e ∙ ap (λ x. list + x) (same_level n last due f))

  pub found_place : due / 256 ≡ last / 256 → list + due % 256 ≡ level_list 8 first_last first_due
  found_place f = sym (lowest_of c.levels refl c.some f)

-- Display names: what the grammar spells is read again, and what is read is spelled by the grammar.
use Rattle.std.proofs.Common.{◌≡◌, ℕ, ◌+◌, ◌<◌, false, List, [], ◌∷◌, ◌++◌, length, drop, refl, subst, sym, ap, ◌∙◌, inl, inr, arith, Option, Some, None, append_assoc, length-append}
use Rattle.std.specs.Option.{option_map}
use Rattle.std.specs.List.{flat_map, AllByRecursion}
use Rattle.std.proofs.lemmas.Bool.{cases_Bool, both_ways}
use Rattle.std.proofs.lemmas.List.{append-nil}
use Rattle.std.proofs.lemmas.Option.{cond_some, same_Some, none-some}
use Rattle.sip_words.specs.declared.bytes.Class.TheVariants as class
use Rattle.sip_words.specs.declared.separators.Surroundings.TheVariants.{Field}
use Rattle.sip_words.specs.Bytes.{has}
use Rattle.sip_words.specs.Words.{word_end, blank_len, lws_end, quoted_end, stands}
use Rattle.sip_words.specs.Many.{Repeats, many}
use Rattle.sip_words.specs.Grammar.{Blank, lws, IsWord, quotable, quoted}
use Rattle.sip_words.proofs.Steps.{bind_some}
use Rattle.sip_words.proofs.ManyLaws.{many_repeats}
use Rattle.sip_words.proofs.Digits.{word_is}
use Rattle.sip_words.proofs.Pieces.{behind, Ends, Lacks, word_again, lws_again, quote_again, stands_at, stands_no, other_byte, solid, token_solid}
use Rattle.sip_words.proofs.Again.{stops_token}
use Rattle.sip_words.proofs.Takes.{Takes, then, lws_takes, word_takes, quote_takes, stands_takes}
use Rattle.sip_fields.specs.NameAddr.{next_name, names_end, display_end, open_at}
use Rattle.sip_fields.specs.NameAddrGrammar.{SpacedToken, spaced_token, IsSpacedToken, DisplayTree, Nothing, Quotation, Tokens, display, IsDisplay}
use Rattle.sip_fields.proofs.Runs.{run_ends, no_word, stops_gap}
use Rattle.sip_fields.proofs.Names.{name_is, names_go, names_stop}

open_ends : has class.Token 60 ≡ false
unfolding has
open_ends = refl

-- LWS, and then <
gap_ends : (gap : List Blank) (rest : List ℕ) → Ends class.Token (lws gap ++ (60 ∷ rest))
gap_ends [] rest = open_ends
gap_ends (b ∷ gap) rest = stops_token Field _ (stops_gap (b ∷ gap) (60 ∷ rest) (omega arith))

pub no_names : (text : List ℕ) (i : ℕ) (rest : List ℕ) → drop i text ≡ rest → Ends class.Token rest → names_end text i ≡ Some i
no_names text i rest h ends = names_stop text i (sym (no_word class.Token text i rest h ends))

pub one_name : (text : List ℕ) (i : ℕ) (w : List ℕ) (gap : List Blank) (rest : List ℕ) → drop i text ≡ w ++ (lws gap ++ rest) → IsWord class.Token w → Ends class.Token (lws gap ++ rest) → blank_len rest ≡ 0 → names_end text i ≡ names_end text (i + length w + length (lws gap))
one_name text i w gap rest h is ends none =
    let word = word_again class.Token text i w _ h is ends in
    let at = behind text i w _ h in
    let end = lws_again text _ gap rest at none in
    sym (names_go text i (i + length w) (sym word)) ∙ ap (λ n. names_end text n) end

more_length : (first : List ℕ) (n : SpacedToken) (more : List SpacedToken) (gap : List Blank) → length (first ++ (flat_map spaced_token (n ∷ more) ++ lws gap)) ≡ length first + (length (lws n.gap) + length (n.token ++ (flat_map spaced_token more ++ lws gap)))
more_length first n more gap = lengths first (lws n.gap) n.token (flat_map spaced_token more) (lws gap)
  where
    lengths : (a b c d e : List ℕ) → length (a ++ (((b ++ c) ++ d) ++ e)) ≡ length a + (length b + length (c ++ (d ++ e)))
    lengths a b c d e = simp length-append (omega arith)

names_again : (text : List ℕ) (i : ℕ) (first : List ℕ) (more : List SpacedToken) (gap : List Blank) (rest : List ℕ) → drop i text ≡ (first ++ (flat_map spaced_token more ++ lws gap)) ++ (60 ∷ rest) → IsWord class.Token first → AllByRecursion IsSpacedToken more → names_end text i ≡ Some (i + length (first ++ (flat_map spaced_token more ++ lws gap)))
names_again text i first [] gap rest h is are =
    let whole : drop i text ≡ first ++ (lws gap ++ (60 ∷ rest)) = h ∙ append_assoc first (lws gap) (60 ∷ rest) in
    let one = one_name text i first gap (60 ∷ rest) whole is (gap_ends gap rest) (solid 60 rest (refl, refl)) in
    let at = behind text _ (lws gap) _ (behind text i first _ whole) in
    one ∙ no_names text _ _ at open_ends ∙ ap (λ (n : ℕ). Some n) (omega (arith, length-append first (lws gap)))
names_again text i first (n ∷ more) gap rest h is are =
    let is_name = are.0 in
    let tail = n.token ++ (flat_map spaced_token more ++ lws gap) in
    let whole : drop i text ≡ first ++ (lws n.gap ++ (tail ++ (60 ∷ rest))) = h ∙ regroup first (lws n.gap) n.token (flat_map spaced_token more) (lws gap) (60 ∷ rest) in
    let none : blank_len (tail ++ (60 ∷ rest)) ≡ 0 = ap blank_len (append_assoc n.token (flat_map spaced_token more ++ lws gap) (60 ∷ rest)) ∙ token_solid n.token _ is_name.token in
    let one = one_name text i first n.gap _ whole is (stops_token Field _ (stops_gap n.gap _ is_name.gap)) none in
    let at = behind text _ (lws n.gap) _ (behind text i first _ whole) in
    let others = names_again text (i + length first + length (lws n.gap)) n.token more gap rest at is_name.token are.1 in
    one ∙ others ∙ ap (λ (k : ℕ). Some k) (omega (arith, more_length first n more gap))
  where
    regroup : (a b c d e r : List ℕ) → (a ++ (((b ++ c) ++ d) ++ e)) ++ r ≡ a ++ (b ++ ((c ++ (d ++ e)) ++ r))
    regroup a b c d e r = simp append_assoc

token_no_quote : has class.Token 34 ≡ false
unfolding has
token_no_quote = refl

word_lacks : (m : ℕ) (w rest : List ℕ) → has class.Token m ≡ false → IsWord class.Token w → Lacks m (w ++ rest)
word_lacks m [] rest lacks is = let none = is.some in absurd (omega arith)
word_lacks m (b ∷ w) rest lacks is = other_byte class.Token m b lacks is.all.0

display_again : (text : List ℕ) (i : ℕ) (d : DisplayTree) (rest : List ℕ) → drop i text ≡ display d ++ (60 ∷ rest) → IsDisplay d → display_end text i ≡ Some (i + length (display d))
unfolding display_end
display_again text i Nothing rest h is = rw (stands_no 34 text i _ h refl) (no_names text i _ h open_ends ∙ ap (λ (n : ℕ). Some n) (omega arith))
display_again text i (Quotation q gap) rest h is =
    let whole : drop i text ≡ quoted q ++ (lws gap ++ (60 ∷ rest)) = h ∙ append_assoc (quoted q) (lws gap) (60 ∷ rest) in
    let inside = behind text i (34 ∷ []) _ whole in
    let end = quote_again text (i + 1) q _ inside is in
    let at = behind text i (quoted q) _ whole in
    let e : (i + 1) + length (flat_map quotable q ++ 34 ∷ []) ≡ i + length (quoted q) = omega arith in
    let gap_is = lws_again text _ gap _ at (solid 60 rest (refl, refl)) in
    rw (stands_at 34 text i _ whole, end, e, gap_is) (ap (λ (n : ℕ). Some n) (omega (arith, length-append (quoted q) (lws gap))))
display_again text i (Tokens first more gap) rest h is =
    let whole = h ∙ append_assoc first (flat_map spaced_token more ++ lws gap) (60 ∷ rest) in
    rw (stands_no 34 text i _ whole (word_lacks 34 first _ token_no_quote is.0)) (names_again text i first more gap rest h is.0 is.1)

pub open_again : (text : List ℕ) (i : ℕ) (d : DisplayTree) (rest : List ℕ) → drop i text ≡ display d ++ (60 ∷ rest) → IsDisplay d → open_at text i ≡ Some (i + length (display d) + 1)
unfolding open_at
open_again text i d rest h is = rw (display_again text i d rest h is, stands_at 60 text _ rest (behind text i (display d) _ h)) refl

pub display_solid : (d : DisplayTree) (rest : List ℕ) → IsDisplay d → blank_len (display d ++ (60 ∷ rest)) ≡ 0
display_solid Nothing rest is = solid 60 rest (refl, refl)
display_solid (Quotation q gap) rest is = solid 34 _ (refl, refl)
display_solid (Tokens first more gap) rest is = ap blank_len (append_assoc first (flat_map spaced_token more ++ lws gap) (60 ∷ rest)) ∙ token_solid first _ is.0

-- tokens, or nothing
abbrev IsNames : DisplayTree → Type 0
IsNames Nothing = Unit {0}
IsNames (Quotation q gap) = ⊥
IsNames (Tokens first more gap) = Unit {0}

record TakenNames (text : List ℕ) (i j : ℕ) : Type 0 where
  tree : DisplayTree
  takes : Takes text i j (display tree)
  is : IsDisplay tree
  names : IsNames tree

-- a token stands where LWS that isn't there ends
no_gap : (text : List ℕ) (i e : ℕ) (first : List ℕ) (rest : List ℕ) → word_end class.Token text i ≡ Some e → drop e text ≡ first ++ rest → IsWord class.Token first → ⊥
no_gap text i e first rest h at is = by_first first is (subst (λ (xs : List ℕ). Ends class.Token xs) at (subst (λ k. Ends class.Token (drop k text)) (sym (word_is class.Token text i e h).0) (run_ends class.Token text i)))
  where
    by_first : (w : List ℕ) → IsWord class.Token w → Ends class.Token (w ++ rest) → ⊥
    by_first [] k ends = let none = k.some in omega arith
    by_first (b ∷ w) k ends = both_ways _ ends k.all.0

-- a token and the LWS behind it, before what was taken already
more_names : (text : List ℕ) (i e j : ℕ) → word_end class.Token text i ≡ Some e → TakenNames text (lws_end text e) j → TakenNames text i j
more_names text i e j h t =
    let w = word_takes class.Token text i e h in
    let l = lws_takes text e in
    by_tree w.0 l.0 w.1 l.1 w.2 t.tree t.takes t.is t.names
  where
    regroup : (a b c d e : List ℕ) → a ++ (b ++ (c ++ (d ++ e))) ≡ a ++ (((b ++ c) ++ d) ++ e)
    regroup a b c d e = simp append_assoc

    some_gap : (gap : List Blank) (first rest : List ℕ) → Takes text e (lws_end text e) (lws gap) → drop (lws_end text e) text ≡ first ++ rest → IsWord class.Token first → 0 < length gap
    some_gap [] first rest k at is = absurd (no_gap text i e first rest h (k.whole ∙ at) is)
    some_gap (b ∷ gap) first rest k at is = omega arith

    by_tree : (w : List ℕ) (gap : List Blank) → Takes text i e w → Takes text e (lws_end text e) (lws gap) → IsWord class.Token w → (d : DisplayTree) → Takes text (lws_end text e) j (display d) → IsDisplay d → IsNames d → TakenNames text i j
    by_tree w gap a b is Nothing c is_more names = record { tree = Tokens w [] gap; takes = then a (subst (λ (v : List ℕ). Takes text e j v) (append-nil (lws gap)) (then b c)); is = (is, tt); names = tt }
    by_tree w gap a b is (Quotation q k) c is_more names = absurd names
    by_tree w gap a b is (Tokens first more last) c is_more names =
        let at = c.whole ∙ append_assoc first (flat_map spaced_token more ++ lws last) (drop j text) in
        let one : IsSpacedToken record { gap = gap; token = first } = record { gap = some_gap gap first _ b at is_more.0; token = is_more.0 } in
        let all = then a (then b c) in
        record { tree = Tokens w (record { gap = gap; token = first } ∷ more) last; takes = subst (λ (v : List ℕ). Takes text i j v) (regroup w (lws gap) first (flat_map spaced_token more) (lws last)) all; is = (is, (one, is_more.1)); names = tt }

repeat_names : (text : List ℕ) (i : ℕ) (ends : List ℕ) (j : ℕ) → Repeats (next_name text) i ends j → TakenNames text i j
repeat_names text i [] j h = record { tree = Nothing; takes = record { whole = ap (λ n. drop n text) h.1; end = omega (arith, h.1) }; is = tt; names = tt }
repeat_names text i (e ∷ ends) j h =
    let is = name_is text i h.0 e h.1 in
    more_names text i e j is.0 (subst (λ k. TakenNames text k j) is.1 (repeat_names text h.0 ends j h.2))

names_take : (text : List ℕ) (i j : ℕ) → names_end text i ≡ Some j → TakenNames text i j
unfolding names_end
names_take text i j h = by_cases (many (length text) (next_name text) i) refl h
  where
    by_cases : (o : Option (List ℕ × ℕ)) → many (length text) (next_name text) i ≡ o → option_map (λ names. names.1) o ≡ Some j → TakenNames text i j
    by_cases None e k = absurd (none-some j k)
    by_cases (Some r) e k = subst (TakenNames text i) (same_Some _ _ k) (repeat_names text i r.0 r.1 (many_repeats (length text) (next_name text) i r e))

display_takes : (text : List ℕ) (i j : ℕ) → display_end text i ≡ Some j → (d : DisplayTree) × Takes text i j (display d) × IsDisplay d
unfolding display_end
display_takes text i j h = elim (cases_Bool (stands 34 text i)) [
  | inl t ↦
      let e = bind_some (quoted_end text (i + 1)) _ j (rw t at h) in
      let q = quote_takes text (i + 1) e.0 e.1 in
      let l = lws_takes text e.0 in
      let end = same_Some _ _ e.2 in
      let d : DisplayTree = Quotation q.0 l.0 in
      (d, subst (λ k. Takes text i k (display d)) end (then (then (stands_takes 34 text i t) q.1) l.1), q.2)
  | inr f ↦ let n = names_take text i j (rw f at h) in (n.tree, n.takes, n.is)
]

-- a display name, and the < behind it
pub open_takes : (text : List ℕ) (i j : ℕ) → open_at text i ≡ Some j → (d : DisplayTree) × Takes text i j (display d ++ (60 ∷ [])) × IsDisplay d
unfolding open_at
open_takes text i j h =
    let p = bind_some (display_end text i) _ j h in
    let c = cond_some (stands 60 text p.0) _ j p.2 in
    let d = display_takes text i p.0 p.1 in
    (d.0, subst (λ k. Takes text i k (display d.0 ++ (60 ∷ []))) c.1 (then d.1 (stands_takes 60 text p.0 c.0)), d.2)

-- What the grammar of a field spells is read.
use Rattle.std.proofs.Common.{◌≡◌, ℕ, ◌+◌, ◌==◌, Bool, true, false, List, [], ◌∷◌, ◌++◌, length, drop, refl, sym, subst, ap, ◌∙◌, inl, inr, arith, Some, append_assoc, length-append}
use Rattle.std.specs.Prelude.{◌⊎◌}
use Rattle.std.specs.List.{AllByRecursion, prefix_len}
use Rattle.std.proofs.lemmas.Bool.{cases_eq, cases_Bool, eqb-true, ne_eqb, false≢true}
use Rattle.sip_words.specs.declared.bytes.Class.TheVariants.{Token}
use Rattle.sip_words.specs.Bytes.{has, is_wsp}
use Rattle.sip_words.specs.Words.{stands}
use Rattle.sip_words.specs.Many.{Repeats}
use Rattle.sip_words.proofs.Pieces.{behind, part_is, stands_at, stands_no, Ends, word_again}
use Rattle.sip_words.proofs.ManyLaws.{repeats_many}
use Rattle.sip_scan.specs.Lines.{is_plain, plain_end, wsp_end, is_crlf, line_end, continues, next_line, lines_at, folded_end}
use Rattle.sip_scan.specs.Field.{field_at}
use Rattle.sip_scan.specs.Grammar.{crlf, IsLine, IsContinuation, lines, FieldTree, field, IsFieldTree, field_place}
use Rattle.sip_scan.proofs.Turns.{lines_advance, line_next, line_done}

-- a run of bytes that pass, before one that doesn't
pub run_len : (p : ℕ → Bool) (w : List ℕ) (b : ℕ) (rest : List ℕ) → AllByRecursion (λ c. p c ≡ true) w → p b ≡ false → prefix_len p (w ++ b ∷ rest) ≡ length w
run_len p [] b rest all stop = rw stop refl
run_len p (c ∷ w) b rest all stop = let h = all.0 in rw (h, run_len p w b rest all.1 stop) (omega arith)

pub crlf_at : (text : List ℕ) (i : ℕ) (rest : List ℕ) → drop i text ≡ 13 ∷ 10 ∷ rest → is_crlf text i ≡ true
unfolding is_crlf
crlf_at text i rest h =
    let next : drop (i + 1) text ≡ 10 ∷ rest = behind text i (13 ∷ []) (10 ∷ rest) h in
    rw (stands_at 13 text i (10 ∷ rest) h, stands_at 10 text (i + 1) rest next) refl

pub line_again : (text : List ℕ) (i : ℕ) (w rest : List ℕ) → drop i text ≡ w ++ (13 ∷ 10 ∷ rest) → IsLine w → line_end text i ≡ Some (i + length w)
unfolding line_end plain_end
line_again text i w rest h is =
    let run = run_len is_plain w 13 (10 ∷ rest) is refl in
    let end = crlf_at text (i + length w) rest (behind text i w (13 ∷ 10 ∷ rest) h) in
    rw (h, run, end) refl

-- neither SP nor HTAB comes next
abbrev pub NoBlank : List ℕ → Type 0
NoBlank [] = Unit {0}
NoBlank (b ∷ rest) = is_wsp b ≡ false

wsp_is : (b : ℕ) → is_wsp b ≡ true → (b ≡ 32) ⊎ (b ≡ 9)
wsp_is b h = elim (cases_eq b 32) [ inl e ↦ inl e | inr ne ↦ inr (eqb-true b 9 (rw (ne_eqb b 32 ne) at h)) ]

wsp_isnt : (b : ℕ) → is_wsp b ≡ false → (b == 32 ≡ false) × (b == 9 ≡ false)
wsp_isnt b h = elim (cases_Bool (b == 32)) [
  | inl e ↦ absurd (false≢true (sym (rw e at h)))
  | inr ne ↦ (ne, rw ne at h)
]

pub continues_again : (text : List ℕ) (i b : ℕ) (rest : List ℕ) → drop i text ≡ b ∷ rest → is_wsp b ≡ true → continues text i ≡ true
unfolding continues
continues_again text i b rest h blank = elim (wsp_is b blank) [
  | inl e ↦ rw (stands_at 32 text i rest (h ∙ ap (λ (n : ℕ). n ∷ rest) e)) refl
  | inr e ↦ elim (cases_Bool (stands 32 text i)) [ inl t ↦ rw t refl | inr f ↦ rw (f, stands_at 9 text i rest (h ∙ ap (λ (n : ℕ). n ∷ rest) e)) refl ]
]

pub continues_no : (text : List ℕ) (i : ℕ) (rest : List ℕ) → drop i text ≡ rest → NoBlank rest → continues text i ≡ false
unfolding continues
continues_no text i [] h none = rw (stands_no 32 text i [] h tt, stands_no 9 text i [] h tt) refl
continues_no text i (b ∷ rest) h none = let no = wsp_isnt b none in rw (stands_no 32 text i (b ∷ rest) h no.0, stands_no 9 text i (b ∷ rest) h no.1) refl

wsp_plain : (b : ℕ) → is_wsp b ≡ true → is_plain b ≡ true
wsp_plain b blank = elim (wsp_is b blank) [ inl e ↦ rw e refl | inr e ↦ rw e refl ]

continuation : (line : List ℕ) → IsContinuation line → (b : ℕ) × (rest : List ℕ) × (line ≡ b ∷ rest) × (is_wsp b ≡ true) × IsLine line
continuation [] is = absurd is
continuation (b ∷ rest) is = (b, rest, refl, is.0, (wsp_plain b is.0, is.1))

regroup : (line x y : List ℕ) → ((line ++ crlf) ++ x) ++ y ≡ line ++ (13 ∷ 10 ∷ (x ++ y))
regroup line x y = simp append_assoc

pub lines_again : (text : List ℕ) (i : ℕ) (more : List (List ℕ)) (rest : List ℕ) → drop i text ≡ lines more ++ rest → AllByRecursion IsContinuation more → NoBlank rest → (ends : List ℕ) × Repeats (next_line text) i ends (i + length (lines more))
lines_again text i [] rest h all none = ([], (line_done text i (continues_no text i rest h none), omega arith))
lines_again text i (line ∷ more) rest h all none =
    let is = continuation line all.0 in
    let whole : drop i text ≡ line ++ (13 ∷ 10 ∷ (lines more ++ rest)) = h ∙ regroup line (lines more) rest in
    let goes = continues_again text i is.0 (is.1 ++ (13 ∷ 10 ∷ (lines more ++ rest))) (whole ∙ ap (λ (l : List ℕ). l ++ (13 ∷ 10 ∷ (lines more ++ rest))) is.2) is.3 in
    let end = line_again text i line (lines more ++ rest) whole is.4 in
    let at_end = behind text i line (13 ∷ 10 ∷ (lines more ++ rest)) whole in
    let next : drop (i + length line + 2) text ≡ lines more ++ rest = behind text (i + length line) crlf (lines more ++ rest) at_end in
    let others = lines_again text (i + length line + 2) more rest next all.1 none in
    let len : i + length line + 2 + length (lines more) ≡ i + length (lines (line ∷ more)) = omega (arith, length-append (line ++ crlf) (lines more), length-append line crlf) in
    ((i + length line) ∷ others.0, (i + length line + 2, line_next text i (i + length line) goes end, subst (λ (j : ℕ). Repeats (next_line text) (i + length line + 2) others.0 j) len others.1))

pub folded_again : (text : List ℕ) (i : ℕ) (first : List ℕ) (more : List (List ℕ)) (rest : List ℕ) → drop i text ≡ first ++ (13 ∷ 10 ∷ (lines more ++ rest)) → IsLine first → AllByRecursion IsContinuation more → NoBlank rest → folded_end text i ≡ Some (i + length first + 2 + length (lines more))
unfolding folded_end lines_at
folded_again text i first more rest h is all none =
    let end = line_again text i first (lines more ++ rest) h is in
    let at_end = behind text i first (13 ∷ 10 ∷ (lines more ++ rest)) h in
    let next : drop (i + length first + 2) text ≡ lines more ++ rest = behind text (i + length first) crlf (lines more ++ rest) at_end in
    let others = lines_again text (i + length first + 2) more rest next all none in
    rw (end, repeats_many (length text) (next_line text) (i + length first + 2) others.0 (i + length first + 2 + length (lines more)) (lines_advance text) others.1) refl

pub wsp_again : (text : List ℕ) (i : ℕ) (gap rest : List ℕ) → drop i text ≡ gap ++ 58 ∷ rest → AllByRecursion (λ b. is_wsp b ≡ true) gap → wsp_end text i ≡ i + length gap
unfolding wsp_end
wsp_again text i gap rest h all = rw (h, run_len is_wsp gap 58 rest all refl) refl

wsp_no_token : (b : ℕ) → is_wsp b ≡ true → has Token b ≡ false
unfolding has
wsp_no_token b blank = elim (wsp_is b blank) [ inl e ↦ rw e refl | inr e ↦ rw e refl ]

name_ends : (gap rest : List ℕ) → AllByRecursion (λ b. is_wsp b ≡ true) gap → Ends Token (gap ++ 58 ∷ rest)
unfolding has
name_ends [] rest all = refl
name_ends (b ∷ gap) rest all = wsp_no_token b all.0

five : (name gap first more rest : List ℕ) → (name ++ (gap ++ (58 ∷ (first ++ (crlf ++ more))))) ++ rest ≡ name ++ (gap ++ (58 ∷ (first ++ (13 ∷ 10 ∷ (more ++ rest)))))
five name gap first more rest = simp append_assoc

pub field_again : (text : List ℕ) (i : ℕ) (t : FieldTree) (rest : List ℕ) → drop i text ≡ field t ++ rest → IsFieldTree t → NoBlank rest → field_at text i ≡ Some (field_place i t)
unfolding field_at
field_again text i t rest h is none =
    let value = t.first ++ (13 ∷ 10 ∷ (lines t.more ++ rest)) in
    let whole : drop i text ≡ t.name ++ (t.gap ++ (58 ∷ value)) = h ∙ five t.name t.gap t.first (lines t.more) rest in
    let name = word_again Token text i t.name (t.gap ++ (58 ∷ value)) whole is.name (name_ends t.gap value is.gap) in
    let part = part_is text i t.name (t.gap ++ (58 ∷ value)) whole in
    let at_gap = behind text i t.name (t.gap ++ (58 ∷ value)) whole in
    let gap = wsp_again text (i + length t.name) t.gap value at_gap is.gap in
    let at_colon = behind text (i + length t.name) t.gap (58 ∷ value) at_gap in
    let colon = stands_at 58 text (i + length t.name + length t.gap) value at_colon in
    let at_value : drop (i + length t.name + length t.gap + 1) text ≡ value = behind text (i + length t.name + length t.gap) (58 ∷ []) value at_colon in
    let end = folded_again text (i + length t.name + length t.gap + 1) t.first t.more rest at_value is.first is.more none in
    let len : i + length t.name + length t.gap + 1 + length t.first + 2 + length (lines t.more) ≡ i + length (field t) = omega (arith, length-append t.name (t.gap ++ (58 ∷ (t.first ++ (crlf ++ lines t.more)))), length-append t.gap (58 ∷ (t.first ++ (crlf ++ lines t.more))), length-append t.first (crlf ++ lines t.more)) in
    rw (name, gap, colon, end, part, len) refl

-- The code of blocks is laid one after another.
use Rattle.std.proofs.Common.{◌≡◌, ℕ, suc, Bool, true, ◌&&◌, ◌+◌, ◌<◌, ◌≤◌, List, [], ◌∷◌, ◌++◌, length, get_or, take, Some, refl, sym, ap, ◌∙◌, subst, ⊎_elim, arith, append_assoc, length-append}
use Rattle.std.specs.Prelude.{slice_get, nat_lt}
use Rattle.std.specs.List.{list_all}
use Rattle.std.proofs.Math.Seq.{get_or-append_seam}
use Rattle.std.proofs.lemmas.Bool.{cases_lt, and_from, and_parts}
use Rattle.std.proofs.lemmas.List.Folds.{list_all-append}
use Rattle.std.proofs.lemmas.List.{take_more, take_all, get_or_append_left, get_or_past}
use Rattle.std.proofs.lemmas.Option.{slice_get-get_or, slice_get_within, get_or_from_slice_get}
use Rattle.cfg_tree.specs.declared.script.Stmt.{Stmt}
use Rattle.cfg_tree.specs.declared.script.Script.{Script}
use Rattle.cfg_tree.specs.Closed.{Names, closed_block, closed_reply, names_with, is_below, IsClosed}
use Rattle.cfg_code.specs.declared.instr.Instr.{Instr}
use Rattle.cfg_code.specs.declared.instr.Instr.TheVariants.{EndBlock}
use Rattle.cfg_code.specs.Code.{text_of_block}
use Rattle.cfg_code.specs.Follows.{HasAt}
use Rattle.cfg_code.specs.Flat.{Flat}
use Rattle.cfg_code.specs.Closed.{closed_instr, closed_code, IsClosedCode}
use Rattle.cfg_code.specs.Sound.{Shape, nothing, Leads, AllSound, AreFine, Shaped}
use Rattle.cfg_compile.specs.Blocks.{StandAtEntries}

get_longer : (code more : List Instr) (p : ℕ) (i : Instr) → slice_get code p ≡ Some i → slice_get (code ++ more) p ≡ Some i
get_longer code more p i h =
    let w = slice_get_within code p i h in
    let w' : p < length (code ++ more) = omega (arith, length-append code more) in
    slice_get-get_or (code ++ more) p i w' ∙ ap Some (get_or_append_left code more i p w ∙ get_or_from_slice_get code p i i h)

has_longer : (code more : List Instr) (p : ℕ) (is : List Instr) → HasAt code p is → HasAt (code ++ more) p is
has_longer code more p [] h = tt
has_longer code more p (i ∷ is) h = (get_longer code more p i h.0, has_longer code more (p + 1) is h.1)

has_all : (is pre : List Instr) → HasAt (pre ++ is) (length pre) is
has_all [] pre = tt
has_all (i ∷ is) pre =
    let within : length pre < length (pre ++ i ∷ is) = omega (arith, length-append pre (i ∷ is)) in
    let here = slice_get-get_or (pre ++ i ∷ is) (length pre) i within ∙ ap Some (get_or-append_seam pre i is i) in
    let n : length (pre ++ i ∷ []) ≡ length pre + 1 = omega (arith, length-append pre (i ∷ [])) in
    let rest = has_all is (pre ++ i ∷ []) in
    let rest' = subst (λ l. HasAt l (length (pre ++ i ∷ [])) is) (append_assoc pre (i ∷ []) is) rest in
    (here, subst (λ m. HasAt (pre ++ i ∷ is) m is) n rest')

fine_append : (a b : List Instr) (all mid behind : List Shape) → AreFine a all mid → AreFine b mid behind → AreFine (a ++ b) all behind
fine_append [] b all mid behind e h = subst (λ x. AreFine b x behind) (sym e) h
fine_append (i ∷ a) b [] mid behind e h = absurd e
fine_append (i ∷ a) b (s ∷ all) mid behind e h = (e.0, fine_append a b all mid behind e.1 h)

-- after instructions
passed : (t : List Instr) (all behind : List Shape) (k : ℕ) → AreFine t all behind → k ≡ length t → slice_get all k ≡ slice_get behind 0
passed [] all behind k e is = ap (λ x. slice_get x k) e ∙ ap (λ i. slice_get behind i) is
passed (i ∷ t) [] behind k e is = absurd e
passed (i ∷ t) (s ∷ all) behind k e is =
    let more : k ≡ suc (length t) = omega (arith, is) in
    ap (λ i. slice_get (s ∷ all) i) more ∙ passed t all behind (length t) e.1 refl

-- the code so far is sound, whatever comes after it
abbrev pub SoundBefore : List Instr → List ℕ → List Shape → Type 0
SoundBefore code entries behind = (all : List Shape) × AreFine code all behind × ((b : ℕ) → Leads all (get_or entries b 0) nothing)

-- the code of each block is sound
abbrev pub EachSound : Type 0
EachSound = (block : List Stmt) (behind : List Shape) → Shaped (text_of_block block) nothing behind

-- the code of each closed block is closed
abbrev pub EachClosed : Type 0
EachClosed = (names : Names) (block : List Stmt) → closed_block names block ≡ true → closed_code names (text_of_block block) ≡ true

-- code that names what is there, where its blocks do
abbrev pub ClosedAs : List Instr → List (List Stmt) → Type 0
ClosedAs code blocks = (names : Names) → list_all (closed_block names) blocks ≡ true → closed_code names code ≡ true

closed_more : EachClosed → (code : List Instr) (blocks : List (List Stmt)) (x : List Stmt) → ClosedAs code blocks → ClosedAs (code ++ text_of_block x) (blocks ++ x ∷ [])
closed_more each code blocks x closed names e =
    let parts = and_parts _ _ (sym (list_all-append (closed_block names) blocks (x ∷ [])) ∙ e) in
    let last = and_parts (closed_block names x) true parts.1 in
    list_all-append (closed_instr names) code (text_of_block x) ∙ and_from _ _ (closed names parts.0) (each names x last.0)

-- these blocks stand where they begin, and are sound and closed
pub record Laid (code : List Instr) (entries : List ℕ) (blocks : List (List Stmt)) : Type 0 where
  pub start : HasAt code 0 (EndBlock ∷ [])
  pub count : length entries ≡ length blocks
  pub each : (b : ℕ) → b < length blocks → HasAt code (get_or entries b 0) (text_of_block (get_or blocks b []))
  pub sound : (behind : List Shape) → SoundBefore code entries behind
  pub closed : ClosedAs code blocks

pub laid_none : Laid (EndBlock ∷ []) [] []
laid_none = record { start = (refl, tt); count = refl; each = λ b h. absurd (omega arith); sound = λ behind. (nothing ∷ behind, (refl, refl), λ b. refl); closed = λ names e. refl }

sound_more : EachSound → (code : List Instr) (entries : List ℕ) (x : List Stmt) → ((behind : List Shape) → SoundBefore code entries behind) → (behind : List Shape) → SoundBefore (code ++ text_of_block x) (entries ++ length code ∷ []) behind
sound_more each code entries x sound behind =
    let B = each x behind in
    let A = sound B.0 in (
      A.0,
      fine_append code (text_of_block x) A.0 B.0 behind A.1 B.1,
      λ b. ⊎_elim
          (λ lt. subst (λ n. Leads A.0 n nothing) (sym (get_or_append_left entries (length code ∷ []) 0 b lt)) (A.2 b))
          (λ le. ⊎_elim
          (λ lt.
          let last : b ≡ length entries = omega (arith, le, lt) in
          let at : get_or (entries ++ length code ∷ []) b 0 ≡ length code = ap (λ k. get_or (entries ++ length code ∷ []) k 0) last ∙ get_or-append_seam entries (length code) [] 0 in
          passed code A.0 B.0 _ A.1 at ∙ B.2)
          (λ more.
          let past : length (entries ++ length code ∷ []) ≤ b = omega (arith, more, length-append entries (length code ∷ [])) in
          let same : get_or (entries ++ length code ∷ []) b 0 ≡ get_or entries b 0 = get_or_past (entries ++ length code ∷ []) b 0 past ∙ sym (get_or_past entries b 0 le) in
          subst (λ n. Leads A.0 n nothing) (sym same) (A.2 b))
          (cases_lt b (length entries + 1)))
          (cases_lt b (length entries)),
    )

laid_more : EachSound → EachClosed → (code : List Instr) (entries : List ℕ) (blocks : List (List Stmt)) (x : List Stmt) → Laid code entries blocks → Laid (code ++ text_of_block x) (entries ++ length code ∷ []) (blocks ++ x ∷ [])
laid_more sound each_closed code entries blocks x laid = record {
  start = has_longer code (text_of_block x) 0 (EndBlock ∷ []) laid.start;
  count = omega (arith, length-append entries (length code ∷ []), length-append blocks (x ∷ []), laid.count);
  each = λ b h. ⊎_elim
      (λ lt.
      let lt' : b < length entries = omega (arith, lt, laid.count) in
      let e = get_or_append_left entries (length code ∷ []) 0 b lt' in
      let f = get_or_append_left blocks (x ∷ []) [] b lt in
      let old = has_longer code (text_of_block x) _ _ (laid.each b lt) in
      subst (λ n. HasAt (code ++ text_of_block x) n (text_of_block (get_or (blocks ++ x ∷ []) b []))) (sym e)
      (subst (λ l. HasAt (code ++ text_of_block x) (get_or entries b 0) (text_of_block l)) (sym f) old))
      (λ le.
      let last : b ≡ length blocks = omega (arith, le, h, length-append blocks (x ∷ [])) in
      let last' : b ≡ length entries = omega (arith, last, laid.count) in
      let e : get_or (entries ++ length code ∷ []) b 0 ≡ length code = ap (λ k. get_or (entries ++ length code ∷ []) k 0) last' ∙ get_or-append_seam entries (length code) [] 0 in
      let f : get_or (blocks ++ x ∷ []) b [] ≡ x = ap (λ k. get_or (blocks ++ x ∷ []) k []) last ∙ get_or-append_seam blocks x [] [] in
      subst (λ n. HasAt (code ++ text_of_block x) n (text_of_block (get_or (blocks ++ x ∷ []) b []))) (sym e)
      (subst (λ l. HasAt (code ++ text_of_block x) (length code) (text_of_block l)) (sym f) (has_all (text_of_block x) code)))
      (cases_lt b (length blocks));
  sound = sound_more sound code entries x laid.sound;
  closed = closed_more each_closed code blocks x laid.closed;
}

pub laid_all : (code : List Instr) (entries : List ℕ) (blocks : List (List Stmt)) → Laid code entries blocks → StandAtEntries code entries blocks
laid_all code entries blocks laid b = ⊎_elim
    (λ lt. laid.each b lt)
    (λ le.
    let le' : length entries ≤ b = omega (arith, le, laid.count) in
    let e = get_or_past entries b 0 le' in
    let f = get_or_past blocks b [] le in
    subst (λ n. HasAt code n (text_of_block (get_or blocks b []))) (sym e) (subst (λ l. HasAt code 0 (text_of_block l)) (sym f) laid.start))
    (cases_lt b (length blocks))

pub laid_sound : (code : List Instr) (entries : List ℕ) (blocks : List (List Stmt)) → Laid code entries blocks → AllSound code entries
laid_sound code entries blocks laid =
    let A = laid.sound [] in
    record { shapes = ∣ (A.0, record { fine = A.1; blocks = A.2 }) ∣₁ }

pub laid_on : EachSound → EachClosed → (code code' text : List Instr) (entries entries' : List ℕ) (at : ℕ) (blocks : List (List Stmt)) (i : ℕ) (x : List Stmt) → i < length blocks → x ≡ get_or blocks i x →
    at ≡ length code → entries' ≡ entries ++ at ∷ [] → text ≡ text_of_block x → code' ≡ code ++ text → Laid code entries (take i blocks) → Laid code' entries' (take (i + 1) blocks)
laid_on sound each_closed code code' text entries entries' at blocks i x h is e f t g laid =
    let next : take (i + 1) blocks ≡ take i blocks ++ x ∷ [] = take_more blocks i x h ∙ ap (λ x. take i blocks ++ x ∷ []) (sym is) in
    rw (next, g, t, f, e) (laid_more sound each_closed code entries (take i blocks) x laid)

pub closed_all : (code : List Instr) (entries : List ℕ) (blocks : List (List Stmt)) (i : ℕ) (made : Flat) → length blocks ≤ i → made ≡ record { instrs = code; entries = entries } →
    Laid code entries (take i blocks) → ClosedAs made.instrs blocks
closed_all code entries blocks i made past is laid names e =
    subst (λ (f : Flat). closed_code names f.instrs ≡ true) (sym is)
    (laid.closed names (subst (λ bs. list_all (closed_block names) bs ≡ true) (sym (take_all i blocks past)) e))

-- the code of a closed script is closed
pub code_closed : (script : Script) (code : Flat) → IsClosed script → length code.entries ≡ length script.blocks → ClosedAs code.instrs script.blocks → IsClosedCode (record {
  code = code;
  request = script.request;
  reply = script.reply;
  vars = script.vars;
  patterns = script.patterns;
  tables = script.tables;
  parameters = script.parameters;
})
code_closed script code e same closed =
    let names : ℕ → Names = λ n. names_with (is_below n) script in
    let n = length script.blocks in
    let parts = and_parts _ (list_all (closed_block (names n)) script.blocks) e in
    subst (λ n. (nat_lt script.request n && closed_reply (names n) script.reply && closed_code (names n) code.instrs) ≡ true) (sym same)
    (and_from _ _ parts.0 (closed (names n) parts.1))

-- One step of each run.
use Rattle.std.proofs.Common.{◌≡◌, ℕ, suc, ◌+◌, ◌-◌, ◌<◌, ◌≤◌, true, false, List, length, drop, get_or, refl, arith, Some, None}
use Rattle.std.specs.List.{prefix_len}
use Rattle.std.proofs.lemmas.List.{drop_more, drop_all}
use Rattle.sip_words.specs.declared.bytes.Class.TheVariants.{Wsp, InLine}
use Rattle.sip_words.specs.Bytes.{has}
use Rattle.sip_words.specs.Words.{run_end}
use Rattle.sip_scan.specs.Lines.{is_break, is_plain, plain_end, wsp_end, skipped, is_crlf, first_crlf}

pub plain_stops : (text : List ℕ) (i : ℕ) → i < length text → is_plain (get_or text i 0) ≡ false → plain_end text i ≡ i
unfolding plain_end
plain_stops text i lt h = let e = drop_more text i 0 lt in rw (e, h) (omega arith)

pub plain_goes : (text : List ℕ) (i : ℕ) → i < length text → is_plain (get_or text i 0) ≡ true → plain_end text (i + 1) ≡ plain_end text i
unfolding plain_end
plain_goes text i lt h = let e = drop_more text i 0 lt in rw (e, h) (omega arith)

pub plain_all : (text : List ℕ) (i : ℕ) → length text ≤ i → plain_end text i ≡ i
unfolding plain_end
plain_all text i le = rw (drop_all i text le) (omega arith)

-- runs of a class
pub plain_run : (text : List ℕ) (i : ℕ) → run_end InLine text i ≡ plain_end text i
unfolding run_end plain_end has
plain_run text i = refl

pub wsp_run : (text : List ℕ) (i : ℕ) → run_end Wsp text i ≡ wsp_end text i
unfolding run_end wsp_end has
wsp_run text i = refl

-- the invariant of the loop over the CR and LF in front
abbrev pub skip_from : List ℕ → ℕ → ℕ
skip_from text i = i + prefix_len is_break (drop i text)

pub skip_starts : (text : List ℕ) → skip_from text 0 ≡ skipped text
unfolding skipped
skip_starts text = omega arith

pub skip_stops : (text : List ℕ) (i : ℕ) → i < length text → is_break (get_or text i 0) ≡ false → skip_from text i ≡ i
skip_stops text i lt h = let e = drop_more text i 0 lt in rw (e, h) (omega arith)

pub skip_goes : (text : List ℕ) (i : ℕ) → i < length text → is_break (get_or text i 0) ≡ true → skip_from text (i + 1) ≡ skip_from text i
skip_goes text i lt h = let e = drop_more text i 0 lt in rw (e, h) (omega arith)

pub skip_all : (text : List ℕ) (i : ℕ) → length text ≤ i → skip_from text i ≡ i
skip_all text i le = rw (drop_all i text le) (omega arith)

pub crlf_here : (text : List ℕ) (i : ℕ) → i < length text → is_crlf text i ≡ true → first_crlf text i ≡ Some i
unfolding first_crlf
crlf_here text i lt h = let n : length text - i ≡ suc (length text - (i + 1)) = omega arith in rw (n, h) refl

pub crlf_later : (text : List ℕ) (i : ℕ) → i < length text → is_crlf text i ≡ false → first_crlf text (i + 1) ≡ first_crlf text i
unfolding first_crlf
crlf_later text i lt h = let n : length text - i ≡ suc (length text - (i + 1)) = omega arith in rw (n, h) refl

pub crlf_none : (text : List ℕ) (i : ℕ) → length text ≤ i → first_crlf text i ≡ None
unfolding first_crlf
crlf_none text i le = let n : length text - i ≡ 0 = omega arith in rw n refl

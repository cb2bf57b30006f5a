-- Start lines that the grammar spells are read.
use Rattle.std.proofs.Common.{◌≡◌, ℕ, ◌+◌, ◌-◌, ◌≤◌, ◌==◌, Bool, true, false, List, [], ◌∷◌, ◌++◌, length, drop, refl, sym, ap, ◌∙◌, arith, append_assoc, length-append, length-drop, Some, None}
use Rattle.std.specs.Prelude.{codes, nat_lt, not, reverse}
use Rattle.std.specs.List.{AllByRecursion, after_last, suffix_len, prefix_len}
use Rattle.std.proofs.lemmas.List.{reverse-append}
use Rattle.std.specs.Fmt.{decimal}
use Rattle.std.specs.Str.Parse.{digits_value}
use Rattle.std.proofs.lemmas.Bool.{le-ltb, eq-eqb, ne_eqb}
use Rattle.std.proofs.lemmas.Fmt.{decimal_is_IsNumeral, length-decimal-le}
use Rattle.std.proofs.lemmas.List.{append-nil, drop_at}
use Rattle.sip_words.specs.Bytes.{◌or◌, has}
use Rattle.sip_words.specs.declared.bytes.Class.TheVariants.{Token, Visible, Digit}
use Rattle.sip_words.specs.Spans.{span}
use Rattle.sip_words.specs.Words.{stands}
use Rattle.sip_words.specs.Grammar.{IsWord}
use Rattle.sip_words.proofs.Pieces.{behind, stands_at, stands_no, word_again, word_at_again, number_again, other_byte}
use Rattle.sip_scan.specs.Lines.{is_plain, begins_sip, speaks_sip}
use Rattle.sip_scan.specs.Grammar.{IsLine}
use Rattle.sip_msg.specs.declared.start.Start.TheVariants.{Request, Status}
use Rattle.sip_msg.specs.Start.{behind_space, request_at, status_at, start_at}

all_length : (text : List ℕ) (i : ℕ) (w : List ℕ) → i ≤ length text → drop i text ≡ w → length text ≡ i + length w
all_length text i w le h = let n = ap (λ (x : List ℕ). length x) h in omega (arith, n, length-drop i text)

space_again : (text : List ℕ) (i : ℕ) (rest : List ℕ) → drop i text ≡ 32 ∷ rest → behind_space text i ≡ Some (i + 1)
space_again text i rest h = rw (stands_at 32 text i rest h) refl

abbrev pub request_line : List ℕ → List ℕ → List ℕ
request_line method uri = method ++ (32 ∷ (uri ++ (32 ∷ codes "SIP/2.0")))

pub request_again : (text : List ℕ) (i : ℕ) (method uri : List ℕ) → i ≤ length text → drop i text ≡ request_line method uri → IsWord Token method → IsWord Visible uri → start_at text i ≡ Some (Request (span i (i + length method)) (span (i + length method + 1) (i + length method + 1 + length uri)))
unfolding start_at request_at has
request_again text i method uri le h is_method is_uri =
    let a = word_again Token text i method _ h is_method refl in
    let at_1 = behind text i method _ h in
    let b = space_again text (i + length method) _ at_1 in
    let at_2 = behind text (i + length method) (32 ∷ []) _ at_1 in
    let c = word_again Visible text (i + length method + 1) uri _ at_2 is_uri refl in
    let at_3 = behind text (i + length method + 1) uri _ at_2 in
    let d = space_again text (i + length method + 1 + length uri) _ at_3 in
    let at_4 = behind text (i + length method + 1 + length uri) (32 ∷ []) (codes "SIP/2.0") at_3 in
    let e = word_at_again (codes "SIP/2.0") (codes "SIP/2.0") text (i + length method + 1 + length uri + 1) [] (at_4 ∙ sym (append-nil (codes "SIP/2.0"))) refl in
    let whole = all_length text i (request_line method uri) le h in
    let size : length (request_line method uri) ≡ length method + (1 + (length uri + 8)) = omega (arith, length-append method (32 ∷ (uri ++ (32 ∷ codes "SIP/2.0"))), length-append uri (32 ∷ codes "SIP/2.0")) in
    let end : (i + length method + 1 + length uri + 1 + 7 == length text) ≡ true = eq-eqb (i + length method + 1 + length uri + 1 + 7) (length text) (omega (arith, whole, size)) in
    rw (a, b, c, d, e, end) refl

abbrev pub status_line : List ℕ → List ℕ → List ℕ
status_line code reason = codes "SIP/2.0 " ++ (code ++ (32 ∷ reason))

no_request : (text : List ℕ) (i : ℕ) (rest : List ℕ) → drop i text ≡ codes "SIP" ++ (47 ∷ rest) → request_at text i ≡ None
unfolding request_at has
no_request text i rest h =
    let a = word_again Token text i (codes "SIP") (47 ∷ rest) h (record { some = omega arith; all = (refl, (refl, (refl, tt))) }) refl in
    let at_1 = behind text i (codes "SIP") (47 ∷ rest) h in
    let b : stands 32 text (i + 3) ≡ false = stands_no 32 text (i + 3) (47 ∷ rest) at_1 refl in
    rw (a, b) refl

pub status_again : (text : List ℕ) (i n : ℕ) (code reason : List ℕ) → i ≤ length text → drop i text ≡ status_line code reason → IsWord Digit code → length code ≤ 3 → digits_value 10 code ≡ n → 100 ≤ n → n ≤ 699 → start_at text i ≡ Some (Status n (span (i + 8 + length code + 1) (i + 8 + length code + 1 + length reason)))
unfolding start_at status_at has
status_again text i n code reason le h is few value low high =
    let none = no_request text i (codes "2.0 " ++ (code ++ (32 ∷ reason))) h in
    let a = word_at_again (codes "SIP/2.0") (codes "SIP/2.0") text i (32 ∷ (code ++ (32 ∷ reason))) h refl in
    let at_1 = behind text i (codes "SIP/2.0") (32 ∷ (code ++ (32 ∷ reason))) h in
    let b = space_again text (i + 7) (code ++ (32 ∷ reason)) at_1 in
    let at_2 = behind text i (codes "SIP/2.0 ") (code ++ (32 ∷ reason)) h in
    let c = number_again 3 text (i + 8) code (32 ∷ reason) at_2 is refl few in
    let at_3 = behind text (i + 8) code (32 ∷ reason) at_2 in
    let space = stands_at 32 text (i + 8 + length code) reason at_3 in
    let whole = all_length text i (status_line code reason) le h in
    let size : length (status_line code reason) ≡ 8 + (length code + (1 + length reason)) = omega (arith, length-append (codes "SIP/2.0 ") (code ++ (32 ∷ reason)), length-append code (32 ∷ reason)) in
    let not_end : (i + 8 + length code == length text) ≡ false = ne_eqb (i + 8 + length code) (length text) (λ e. omega (arith, whole, size)) in
    let end : length text ≡ i + 8 + length code + 1 + length reason = omega (arith, whole, size) in
    let eight : i + 7 + 1 ≡ i + 8 = omega arith in
    let below : nat_lt n 100 ≡ false = le-ltb n 100 low in
    let above : nat_lt 699 n ≡ false = le-ltb 699 n high in
    rw (none, a, b, eight, c, not_end, space, value, below, above, end) refl

-- the code of a response in digits
pub code_word : (n : ℕ) → 100 ≤ n → n ≤ 699 → IsWord Digit (decimal n) → (length (decimal n) ≤ 3) × (digits_value 10 (decimal n) ≡ n)
code_word n low high word = (length-decimal-le 3 n (omega arith) (omega arith) (omega arith), (decimal_is_IsNumeral n (omega arith)).1)

-- lines of plain bytes
pub line_both : (v w : List ℕ) → IsLine v → IsLine w → IsLine (v ++ w)
line_both [] w a c = c
line_both (b ∷ v) w a c = (a.0, line_both v w a.1 c)

plain_token : (b : ℕ) → has Token b ≡ true → is_plain b ≡ true
unfolding has
plain_token b h = let n = other_byte Token 0 b refl h in let r = other_byte Token 13 b refl h in let l = other_byte Token 10 b refl h in rw (n, r, l) refl

plain_visible : (b : ℕ) → has Visible b ≡ true → is_plain b ≡ true
unfolding has
plain_visible b h = let n = other_byte Visible 0 b refl h in let r = other_byte Visible 13 b refl h in let l = other_byte Visible 10 b refl h in rw (n, r, l) refl

plain_digit : (b : ℕ) → has Digit b ≡ true → is_plain b ≡ true
unfolding has
plain_digit b h = let n = other_byte Digit 0 b refl h in let r = other_byte Digit 13 b refl h in let l = other_byte Digit 10 b refl h in rw (n, r, l) refl

all_plain : (P : ℕ → Type 0) → ((b : ℕ) → P b → is_plain b ≡ true) → (w : List ℕ) → AllByRecursion P w → IsLine w
all_plain P f [] a = tt
all_plain P f (b ∷ w) a = (f b a.0, all_plain P f w a.1)

pub line_token : (w : List ℕ) → IsWord Token w → IsLine w
line_token w is = all_plain (λ b. has Token b ≡ true) plain_token w is.all

pub line_visible : (w : List ℕ) → IsWord Visible w → IsLine w
line_visible w is = all_plain (λ b. has Visible b ≡ true) plain_visible w is.all

pub line_digits : (w : List ℕ) → IsWord Digit w → IsLine w
line_digits w is = all_plain (λ b. has Digit b ≡ true) plain_digit w is.all

pub request_is_line : (method uri : List ℕ) → IsWord Token method → IsWord Visible uri → IsLine (request_line method uri)
request_is_line method uri a c =
    let back = line_both uri (32 ∷ codes "SIP/2.0") (line_visible uri c) (refl, (refl, (refl, (refl, (refl, (refl, (refl, (refl, tt)))))))) in
    line_both method (32 ∷ (uri ++ (32 ∷ codes "SIP/2.0"))) (line_token method a) (refl, back)

pub status_is_line : (code reason : List ℕ) → IsWord Digit code → IsLine reason → IsLine (status_line code reason)
status_is_line code reason a c =
    let back = line_both code (32 ∷ reason) (line_digits code a) (refl, c) in
    line_both (codes "SIP/2.0 ") (code ++ (32 ∷ reason)) (refl, (refl, (refl, (refl, (refl, (refl, (refl, (refl, tt)))))))) back

-- lines of SIP
pub status_speaks : (code reason : List ℕ) → speaks_sip (status_line code reason) ≡ true
unfolding speaks_sip begins_sip
status_speaks code reason = refl

last_word : (front : List ℕ) → after_last (λ b. b == 32) (front ++ (32 ∷ codes "SIP/2.0")) ≡ codes "SIP/2.0"
last_word front =
    let w = codes "SIP/2.0" in
    let xs = front ++ (32 ∷ w) in
    let whole : xs ≡ (front ++ 32 ∷ []) ++ w = sym (append_assoc front (32 ∷ []) w) in
    let turned : reverse xs ≡ reverse (32 ∷ w) ++ reverse front = reverse-append front (32 ∷ w) in
    let seven : suffix_len (λ b. not (b == 32)) xs ≡ 7 = ap (λ (t : List ℕ). prefix_len (λ b. not (b == 32)) t) turned in
    let long : length (front ++ 32 ∷ []) ≡ length xs - 7 = omega (arith, length-append front (32 ∷ []), length-append front (32 ∷ w)) in
    ap (λ (n : ℕ). drop (length xs - n) xs) seven ∙ ap (λ (t : List ℕ). drop (length xs - 7) t) whole ∙ drop_at (front ++ 32 ∷ []) w (length xs - 7) long

either : (x y : Bool) → y ≡ true → (x or y) ≡ true
either true y h = refl
either false y h = h

pub request_speaks : (method uri : List ℕ) → speaks_sip (request_line method uri) ≡ true
unfolding speaks_sip begins_sip
request_speaks method uri =
    let whole : request_line method uri ≡ (method ++ (32 ∷ uri)) ++ (32 ∷ codes "SIP/2.0") = sym (append_assoc method (32 ∷ uri) (32 ∷ codes "SIP/2.0")) in
    either (begins_sip (request_line method uri)) (begins_sip (after_last (λ b. b == 32) (request_line method uri))) (ap (λ (x : List ℕ). begins_sip (after_last (λ b. b == 32) x)) whole ∙ ap begins_sip (last_word (method ++ (32 ∷ uri))))

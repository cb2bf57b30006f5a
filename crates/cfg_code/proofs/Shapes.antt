-- The code of a tree is sound.
use Rattle.std.proofs.Common.{◌≡◌, ℕ, suc, ◌+◌, ◌<◌, pos, true, false, List, [], ◌∷◌, ◌++◌, length, map, Option, Some, None, refl, sym, ap, ◌∙◌, subst, arith, length-append}
use Rattle.std.specs.Prelude.{slice_get}
use Rattle.pv_values.specs.declared.value.Val.{Val}
use Rattle.pv_values.specs.declared.value.Val.TheVariants as val
use Rattle.pv_values.specs.declared.operator.BinOp.{BinOp}
use Rattle.pv_values.specs.Values.{limited, bit}
use Rattle.cfg_tree.specs.declared.script.Part.{Part}
use Rattle.cfg_tree.specs.declared.script.Part.TheOpen.{Part-F}
use Rattle.cfg_tree.specs.declared.script.Part.TheViews.{roll-Part}
use Rattle.cfg_tree.specs.declared.script.Part.TheFolds.{fold-roll-Part, ind-Part, map-Part}
use Rattle.cfg_tree.specs.declared.script.Expr.{Expr}
use Rattle.cfg_tree.specs.declared.script.Expr.TheOpen.{Expr-F}
use Rattle.cfg_tree.specs.declared.script.Expr.TheViews.{roll-Expr}
use Rattle.cfg_tree.specs.declared.script.Expr.TheFolds.{fold-roll-Expr, ind-Expr, map-Expr}
use Rattle.cfg_tree.specs.declared.script.Target.{Target}
use Rattle.cfg_tree.specs.declared.script.Target.TheVariants as target
use Rattle.cfg_tree.specs.declared.script.Stmt.{Stmt}
use Rattle.cfg_tree.specs.declared.script.Stmt.TheOpen.{Stmt-F}
use Rattle.cfg_tree.specs.declared.script.Stmt.TheViews.{roll-Stmt}
use Rattle.cfg_tree.specs.declared.script.Stmt.TheFolds.{fold-roll-Stmt, ind-Stmt, map-Stmt}
use Rattle.cfg_tree.specs.Meaning.{Wanted, AsValue, AsTruth}
use Rattle.cfg_code.specs.declared.instr.Instr.{Instr}
use Rattle.cfg_code.specs.declared.instr.Instr.TheVariants.{Push, Load, LoadCode, LoadSuccess, Store, Read, ReadItem, Write, WriteItem, Transform, Concat, PushArgument, CallFunction, ExitOnZero, CallBlock, Binary, Negate, Not, ToBool, Match, JumpIfFalseOrPop, JumpIfTrueOrPop, Pop, CountStatement, JumpIfFalse, Jump, BeginLoop, BeginRound, LoopBack, EndLoop, Return, Exit, Drop, EndBlock}
use Rattle.cfg_code.specs.Code.{Text, texts_joined, concat_text, concats, expansion_text, part_text, part_code, expansion_code, wanted_text, called_text, argument_text, arguments_code, link_text, links_text, and_text, ands_text, or_text, ors_text, expr_text, expr_code, set_text, if_text, while_text, case_text, cases_text, switch_text, return_text, stmt_text, stmt_code, list_code, text_of_block}
use Rattle.cfg_code.specs.Sound.{Shape, nothing, Leads, Moves, IsFine, AreFine, Shaped}

abbrev at : ℕ → ℕ → Shape
at h l = record { values = h; loops = l }

abbrev Every : {A : Type 0} → (A → Type 0) → List A → Type 0
Every P [] = Unit {0}
Every P (a ∷ more) = P a × Every P more

-- from the one shape to the other, whatever comes after
abbrev Fits : Text → Shape → Shape → Type 0
Fits t s k = (behind : List Shape) → Leads behind 0 k → Shaped t s behind

fine_append : (a b : Text) (all mid behind : List Shape) → AreFine a all mid → AreFine b mid behind → AreFine (a ++ b) all behind
fine_append [] b all mid behind e h = subst (λ x. AreFine b x behind) (sym e) h
fine_append (i ∷ a) b [] mid behind e h = absurd e
fine_append (i ∷ a) b (s ∷ all) mid behind e h = (e.0, fine_append a b all mid behind e.1 h)

-- after a text
pub passed : (t : Text) (all behind : List Shape) (n k : ℕ) → AreFine t all behind → k ≡ length t + n → slice_get all k ≡ slice_get behind n
passed [] all behind n k e is = let same : k ≡ n = omega (arith, is) in ap (λ x. slice_get x k) e ∙ ap (λ i. slice_get behind i) same
passed (i ∷ t) [] behind n k e is = absurd e
passed (i ∷ t) (s ∷ all) behind n k e is =
    let more : k ≡ suc (length t + n) = omega (arith, is) in
    ap (λ i. slice_get (s ∷ all) i) more ∙ passed t all behind n (length t + n) e.1 refl

seq : (a b : Text) (s m k : Shape) → Fits a s m → Fits b m k → Fits (a ++ b) s k
seq a b s m k fa fb behind h =
    let B = fb behind h in
    let A = fa B.0 B.2 in
    (A.0, fine_append a b A.0 B.0 behind A.1 B.1, A.2)

-- one instruction that moves on
move : (i : Instr) (takes leaves rest h k l : ℕ) → ((s : Shape) (behind : List Shape) → Moves takes leaves s behind → IsFine i s behind) → h ≡ takes + rest → k ≡ leaves + rest → Fits (i ∷ []) (at h l) (at k l)
move i takes leaves rest h k l is e f behind g = (at h l ∷ behind, (is (at h l) behind (rest, k, e, f, g), refl), refl)

-- leaves one value more, and keeps what stands
abbrev Leaves : Text → Type 0
Leaves t = (h l : ℕ) → Fits t (at h l) (at (1 + h) l)

abbrev Keeps : Text → Type 0
Keeps t = (l : ℕ) → Fits t (at 0 l) (at 0 l)

leaf : (i : Instr) → ((s : Shape) (behind : List Shape) → Moves 0 1 s behind → IsFine i s behind) → Leaves (i ∷ [])
leaf i is h l = move i 0 1 h h (1 + h) l is (omega arith) refl

change : (i : Instr) → ((s : Shape) (behind : List Shape) → Moves 1 1 s behind → IsFine i s behind) → (c : Text) → Leaves c → Leaves (c ++ i ∷ [])
change i is c lc h l = seq c (i ∷ []) (at h l) (at (1 + h) l) (at (1 + h) l) (lc h l) (move i 1 1 h (1 + h) (1 + h) l is refl refl)

-- ---- expanded texts

concats_fit : (ts : List Text) → Every Leaves ts → (h l : ℕ) → Fits (concats ts) (at (1 + h) l) (at (1 + h) l)
concats_fit [] every h l = λ behind g. (behind, refl, g)
concats_fit (t ∷ ts) every h l =
    seq (concat_text t) (concats ts) (at (1 + h) l) (at (1 + h) l) (at (1 + h) l)
    (seq t (Concat ∷ []) (at (1 + h) l) (at (1 + (1 + h)) l) (at (1 + h) l) (every.0 (1 + h) l) (move Concat 2 1 h (1 + (1 + h)) (1 + h) l (λ s b m. m) (omega arith) refl))
    (concats_fit ts every.1 h l)

texts_fit : (ts : List Text) → Every Leaves ts → Leaves (expansion_text ts)
texts_fit ts every h l =
    seq (Push (val.Text []) ∷ []) (concats ts) (at h l) (at (1 + h) l) (at (1 + h) l) (leaf (Push (val.Text [])) (λ s b m. m) h l) (concats_fit ts every h l)

abbrev PartFits : Part → Type 0
PartFits x = Leaves (part_code x)

abbrev part_texts : List ((x : Part) × PartFits x) → List Text
part_texts ys = map part_code (map (λ (e : (x : Part) × PartFits x). e.0) ys)

part_pairs : (ys : List ((x : Part) × PartFits x)) → Every Leaves (part_texts ys)
part_pairs [] = tt
part_pairs (y ∷ ys) = (y.1, part_pairs ys)

part_layer : (y : Part-F ((x : Part) × PartFits x)) → Leaves (part_text (map-Part _ _ part_code (map-Part _ _ (λ e. e.0) y)))
part_layer (Part-F.Text t) = leaf (Push (val.Text t)) (λ s b m. m)
part_layer (Part-F.Var x) = leaf (Load x) (λ s b m. m)
part_layer Part-F.Code = leaf LoadCode (λ s b m. m)
part_layer (Part-F.Host x) = leaf (Read x) (λ s b m. m)
part_layer (Part-F.Item way t key) = change (ReadItem way t) (λ s b m. m) (expansion_text (part_texts key)) (texts_fit (part_texts key) (part_pairs key))
part_layer (Part-F.Transformed tr x) = change (Transform tr) (λ s b m. m) (part_code x.0) x.1

part_fits : (x : Part) → PartFits x
part_fits = ind-Part PartFits (λ x y is. subst (λ x. PartFits (roll-Part x)) is (
    let x = map-Part ((x : Part) × PartFits x) Part (λ e. e.0) y in
    subst (λ c. Leaves c) (sym (fold-roll-Part Text part_text x)) (part_layer y)))

parts_fit : (xs : List Part) → Every Leaves (map part_code xs)
parts_fit [] = tt
parts_fit (x ∷ xs) = (part_fits x, parts_fit xs)

expansion_fits : (xs : List Part) → Leaves (expansion_code xs)
expansion_fits xs = texts_fit (map part_code xs) (parts_fit xs)

arguments_fit : (xs : List (List Part)) (h l : ℕ) → Fits (arguments_code xs) (at h l) (at h l)
arguments_fit [] h l = λ behind g. (behind, refl, g)
arguments_fit (x ∷ xs) h l =
    seq (argument_text (expansion_code x)) (arguments_code xs) (at h l) (at h l) (at h l)
    (seq (expansion_code x) (PushArgument ∷ []) (at h l) (at (1 + h) l) (at h l) (expansion_fits x h l) (move PushArgument 1 0 h (1 + h) h l (λ s b m. m) refl (omega arith)))
    (arguments_fit xs h l)

-- ---- expressions

wanted_fits : (w : Wanted) → Leaves (wanted_text w ∷ [])
wanted_fits AsValue = leaf LoadCode (λ s b m. m)
wanted_fits AsTruth = leaf LoadSuccess (λ s b m. m)

still : (i : Instr) → ((s : Shape) (behind : List Shape) → Moves 0 0 s behind → IsFine i s behind) → (h l : ℕ) → Fits (i ∷ []) (at h l) (at h l)
still i is h l = move i 0 0 h h h l is (omega arith) (omega arith)

called_fits : (c : Text) → ((h l : ℕ) → Fits c (at h l) (at h l)) → (w : Wanted) → Leaves (called_text c w)
called_fits c fc w h l =
    seq (CountStatement ∷ []) (c ++ ExitOnZero ∷ wanted_text w ∷ []) (at h l) (at h l) (at (1 + h) l) (still CountStatement (λ s b m. m) h l)
    (seq c (ExitOnZero ∷ wanted_text w ∷ []) (at h l) (at h l) (at (1 + h) l) (fc h l)
    (seq (ExitOnZero ∷ []) (wanted_text w ∷ []) (at h l) (at h l) (at (1 + h) l) (still ExitOnZero (λ s b m. m) h l) (wanted_fits w h l)))

function_fits : (xs : List (List Part)) (i : Instr) → ((s : Shape) (behind : List Shape) → Moves 0 0 s behind → IsFine i s behind) → (h l : ℕ) → Fits (arguments_code xs ++ i ∷ []) (at h l) (at h l)
function_fits xs i is h l = seq (arguments_code xs) (i ∷ []) (at h l) (at h l) (at h l) (arguments_fit xs h l) (still i is h l)

abbrev Operand : (Wanted → Text) → Type 0
Operand t = (w : Wanted) → Leaves (t w)

links_fit : (cs : List (BinOp × (Wanted → Text))) → Every (λ c. Operand c.1) cs → (h l : ℕ) → Fits (links_text cs) (at (1 + h) l) (at (1 + h) l)
links_fit [] every h l = λ behind g. (behind, refl, g)
links_fit (c ∷ cs) every h l =
    seq (link_text c.0 (c.1 AsValue)) (links_text cs) (at (1 + h) l) (at (1 + h) l) (at (1 + h) l)
    (seq (c.1 AsValue) (Binary c.0 ∷ []) (at (1 + h) l) (at (1 + (1 + h)) l) (at (1 + h) l) (every.0 AsValue (1 + h) l) (move (Binary c.0) 2 1 h (1 + (1 + h)) (1 + h) l (λ s b m. m) (omega arith) refl))
    (links_fit cs every.1 h l)

-- an operand of `&&` or `||`, which is passed where the value before it stays
passing_fits : (i : Instr) (a : Text) → ((s : Shape) (behind : List Shape) → Moves 1 0 s behind × Leads behind (length a + 1) s → IsFine i s behind) → Leaves a → (h l : ℕ) → Fits (i ∷ (a ++ ToBool ∷ [])) (at (1 + h) l) (at (1 + h) l)
passing_fits i a is la h l behind g =
    let t = a ++ ToBool ∷ [] in
    let R = seq a (ToBool ∷ []) (at h l) (at (1 + h) l) (at (1 + h) l) (la h l) (move ToBool 1 1 h (1 + h) (1 + h) l (λ s b m. m) refl refl) behind g in
    let long : length a + 1 ≡ length t + 0 = omega (arith, length-append a (ToBool ∷ [])) in
    (at (1 + h) l ∷ R.0, (is (at (1 + h) l) R.0 ((h, h, refl, omega arith, R.2), passed t R.0 behind 0 (length a + 1) R.1 long ∙ g), R.1), refl)

ands_fit : (ts : List (Wanted → Text)) → Every Operand ts → (h l : ℕ) → Fits (ands_text ts) (at (1 + h) l) (at (1 + h) l)
ands_fit [] every h l = λ behind g. (behind, refl, g)
ands_fit (t ∷ ts) every h l = seq (and_text (t AsTruth)) (ands_text ts) (at (1 + h) l) (at (1 + h) l) (at (1 + h) l)
    (passing_fits (JumpIfFalseOrPop (length (t AsTruth) + 1)) (t AsTruth) (λ s b m. m) (every.0 AsTruth) h l) (ands_fit ts every.1 h l)

ors_fit : (ts : List (Wanted → Text)) → Every Operand ts → (h l : ℕ) → Fits (ors_text ts) (at (1 + h) l) (at (1 + h) l)
ors_fit [] every h l = λ behind g. (behind, refl, g)
ors_fit (t ∷ ts) every h l = seq (or_text (t AsTruth)) (ors_text ts) (at (1 + h) l) (at (1 + h) l) (at (1 + h) l)
    (passing_fits (JumpIfTrueOrPop (length (t AsTruth) + 1)) (t AsTruth) (λ s b m. m) (every.0 AsTruth) h l) (ors_fit ts every.1 h l)

pushed_fits : (v : Val) (c : Text) → ((h l : ℕ) → Fits c (at (1 + h) l) (at (1 + h) l)) → Leaves (Push v ∷ c)
pushed_fits v c fc h l = seq (Push v ∷ []) c (at h l) (at (1 + h) l) (at (1 + h) l) (leaf (Push v) (λ s b m. m) h l) (fc h l)

abbrev ExprFits : Expr → Type 0
ExprFits e = Operand (expr_code e)

abbrev expr_texts : List ((e : Expr) × ExprFits e) → List (Wanted → Text)
expr_texts ys = map expr_code (map (λ (e : (e : Expr) × ExprFits e). e.0) ys)

expr_pairs : (ys : List ((e : Expr) × ExprFits e)) → Every Operand (expr_texts ys)
expr_pairs [] = tt
expr_pairs (y ∷ ys) = (y.1, expr_pairs ys)

abbrev link_texts : List (BinOp × ((e : Expr) × ExprFits e)) → List (BinOp × (Wanted → Text))
link_texts ys = map (λ (c : BinOp × Expr). (c.0, expr_code c.1)) (map (λ (c : BinOp × ((e : Expr) × ExprFits e)). (c.0, c.1.0)) ys)

link_pairs : (ys : List (BinOp × ((e : Expr) × ExprFits e))) → Every (λ (c : BinOp × (Wanted → Text)). Operand c.1) (link_texts ys)
link_pairs [] = tt
link_pairs (y ∷ ys) = (y.1.1, link_pairs ys)

chain_fits : (a : Text) → Leaves a → (cs : List (BinOp × (Wanted → Text))) → Every (λ (c : BinOp × (Wanted → Text)). Operand c.1) cs → Leaves (a ++ links_text cs)
chain_fits a la cs every h l = seq a (links_text cs) (at h l) (at (1 + h) l) (at (1 + h) l) (la h l) (links_fit cs every h l)

expr_layer : (y : Expr-F ((e : Expr) × ExprFits e)) → Operand (expr_text (map-Expr _ _ expr_code (map-Expr _ _ (λ e. e.0) y)))
expr_layer (Expr-F.Int n) = λ w. leaf (Push (val.Int n)) (λ s b m. m)
expr_layer (Expr-F.Text t) = λ w. leaf (Push (limited t)) (λ s b m. m)
expr_layer (Expr-F.Read x) = λ w. part_fits x
expr_layer (Expr-F.Call f args) = called_fits (arguments_code args ++ CallFunction f ∷ []) (function_fits args (CallFunction f) (λ s b m. m))
expr_layer (Expr-F.Route b) = called_fits (CallBlock b ∷ []) (still (CallBlock b) (λ s b m. m))
expr_layer (Expr-F.Not a) = λ w. change Not (λ s b m. m) (expr_code a.0 AsTruth) (a.1 AsTruth)
expr_layer (Expr-F.Negative a) = λ w. change Negate (λ s b m. m) (expr_code a.0 AsValue) (a.1 AsValue)
expr_layer (Expr-F.Chain a cs) = λ w. chain_fits (expr_code a.0 AsValue) (a.1 AsValue) (link_texts cs) (link_pairs cs)
expr_layer (Expr-F.Matches a p) = λ w. change (Match p) (λ s b m. m) (expr_code a.0 AsValue) (a.1 AsValue)
expr_layer (Expr-F.All ms) = λ w. pushed_fits (bit true) (ands_text (expr_texts ms)) (ands_fit (expr_texts ms) (expr_pairs ms))
expr_layer (Expr-F.Any ms) = λ w. pushed_fits (bit false) (ors_text (expr_texts ms)) (ors_fit (expr_texts ms) (expr_pairs ms))

expr_fits : (e : Expr) → ExprFits e
expr_fits = ind-Expr ExprFits (λ x y is. subst (λ x. ExprFits (roll-Expr x)) is (
    let x = map-Expr ((e : Expr) × ExprFits e) Expr (λ e. e.0) y in
    subst (λ c. Operand c) (sym (fold-roll-Expr (Wanted → Text) expr_text x)) (expr_layer y)))

-- ---- statements

joined_fits : (ts : List Text) → Every Keeps ts → Keeps (texts_joined ts)
joined_fits [] every l = λ behind g. (behind, refl, g)
joined_fits (t ∷ ts) every l = seq t (texts_joined ts) (at 0 l) (at 0 l) (at 0 l) (every.0 l) (joined_fits ts every.1 l)

take_fits : (i : Instr) → ((s : Shape) (behind : List Shape) → Moves 1 0 s behind → IsFine i s behind) → (c : Text) → Leaves c → Keeps (c ++ i ∷ [])
take_fits i is c lc l = seq c (i ∷ []) (at 0 l) (at 1 l) (at 0 l) (lc 0 l) (move i 1 0 0 1 0 l is refl refl)

counted_fits : (c : Text) → Keeps c → Keeps (CountStatement ∷ c)
counted_fits c kc l = seq (CountStatement ∷ []) c (at 0 l) (at 0 l) (at 0 l) (still CountStatement (λ s b m. m) 0 l) (kc l)

set_fits : (x : Target) (c : Text) → Leaves c → Keeps (set_text x c)
set_fits (target.Var x) c lc = counted_fits (c ++ Store x ∷ []) (take_fits (Store x) (λ s b m. m) c lc)
set_fits (target.Host x) c lc = counted_fits (c ++ Write x ∷ []) (take_fits (Write x) (λ s b m. m) c lc)
set_fits (target.Item way t key) c lc = counted_fits (expansion_code key ++ (c ++ WriteItem way t ∷ [])) (λ l.
    seq (expansion_code key) (c ++ WriteItem way t ∷ []) (at 0 l) (at 1 l) (at 0 l) (expansion_fits key 0 l)
    (seq c (WriteItem way t ∷ []) (at 1 l) (at 2 l) (at 0 l) (lc 1 l) (move (WriteItem way t) 2 0 0 2 0 l (λ s b m. m) refl refl)))

if_fits : (c a b : Text) → Leaves c → Keeps a → Keeps b → Keeps (if_text c a b)
if_fits c a b lc ka kb = counted_fits (c ++ (JumpIfFalse (length a + 1) ∷ (a ++ (Jump (length b) ∷ b)))) (λ l behind g.
    let B = kb l behind g in
    let P = at 0 l ∷ B.0 in
    let A = ka l P refl in
    let C = lc 0 l (at 1 l ∷ A.0) refl in
    let end : length b ≡ length b + 0 = omega arith in
    let pass : AreFine (Jump (length b) ∷ b) P behind = (passed b B.0 behind 0 (length b) B.1 end ∙ g, B.1) in
    let to_b : Leads A.0 (length a + 1) (at 0 l) = passed a A.0 P 1 (length a + 1) A.1 refl ∙ B.2 in
    let test : AreFine (JumpIfFalse (length a + 1) ∷ (a ++ (Jump (length b) ∷ b))) (at 1 l ∷ A.0) behind =
    (((0, 0, refl, refl, A.2), 0, refl, to_b), fine_append a (Jump (length b) ∷ b) A.0 P behind A.1 pass) in
    (C.0, fine_append c _ C.0 (at 1 l ∷ A.0) behind C.1 test, C.2))

while_fits : (c a : Text) → Leaves c → Keeps a → Keeps (while_text c a)
while_fits c a lc ka = counted_fits (BeginLoop (length c + length a + 4) ∷ (c ++ (JumpIfFalse (length a + 2) ∷ BeginRound ∷ (a ++ LoopBack ∷ EndLoop ∷ [])))) (λ l behind g.
    let m = l + 1 in
    let some : 0 < m = omega arith in
    let F = at 0 m ∷ behind in
    let E = at 0 m ∷ F in
    let A = ka m E refl in
    let Q = at 0 m ∷ A.0 in
    let S = at 1 m ∷ Q in
    let C = lc 0 m S refl in
    let last : AreFine (LoopBack ∷ EndLoop ∷ []) E behind = ((refl, some), ((refl, l, refl, g), refl)) in
    let body : AreFine (a ++ LoopBack ∷ EndLoop ∷ []) A.0 behind = fine_append a (LoopBack ∷ EndLoop ∷ []) A.0 E behind A.1 last in
    let round : AreFine (BeginRound ∷ (a ++ LoopBack ∷ EndLoop ∷ [])) Q behind = ((refl, some, A.2), body) in
    let two : length a + 2 ≡ suc (length a + 1) = omega arith in
    let out : Leads Q (length a + 2) (at 0 m) = ap (λ i. slice_get Q i) two ∙ passed a A.0 E 1 (length a + 1) A.1 refl in
    let rest = JumpIfFalse (length a + 2) ∷ BeginRound ∷ (a ++ LoopBack ∷ EndLoop ∷ []) in
    let test : AreFine rest S behind = (((0, 0, refl, refl, refl), 0, refl, out), round) in
    let n = length c + length a + 4 in
    let past_c : n ≡ length c + suc (suc (length a + 2)) = omega arith in
    let exit : Leads C.0 n (at 0 l) = passed c C.0 S (suc (suc (length a + 2))) n C.1 past_c ∙ passed a A.0 E 2 (length a + 2) A.1 refl ∙ g in
    (at 0 l ∷ C.0, ((refl, C.2, exit), fine_append c rest C.0 S behind C.1 test), refl))

-- the cases, at whose tests a value stands, and at what is next to a test none
record Entered (t : Text) (l : ℕ) (behind : List Shape) : Type 0 where
  all : List Shape
  fine : AreFine t all behind
  first : Leads all 0 (at 1 l)
  second : Leads all 1 (at 0 l)

cases_fit : (cs : List (Val × List Text)) → Every (λ (c : Val × List Text). Every Keeps c.1) cs → (l : ℕ) (behind : List Shape) → Leads behind 0 (at 1 l) → Leads behind 1 (at 0 l) → Entered (cases_text cs) l behind
cases_fit [] every l behind g h = record { all = behind; fine = refl; first = g; second = h }
cases_fit (c ∷ cs) every l behind g h =
    let more = cases_fit cs every.1 l behind g h in
    let b = texts_joined c.1 in
    let P = at 0 l ∷ more.all in
    let B = joined_fits c.1 every.0 l P refl in
    let pass : AreFine (Jump 1 ∷ []) P more.all = (more.second, refl) in
    let skip : Leads B.0 (length b + 1) (at 1 l) = passed b B.0 P 1 (length b + 1) B.1 refl ∙ more.first in
    let one : AreFine (case_text c.0 b) (at 1 l ∷ B.0) more.all = (((0, 0, refl, refl, B.2), skip), fine_append b (Jump 1 ∷ []) B.0 P more.all B.1 pass) in
    record { all = at 1 l ∷ B.0; fine = fine_append (case_text c.0 b) (cases_text cs) (at 1 l ∷ B.0) more.all behind one more.fine; first = refl; second = B.2 }

switch_fits : (c : Text) → Leaves c → (cs : List (Val × List Text)) → Every (λ (c : Val × List Text). Every Keeps c.1) cs → (a : Text) → Keeps a → Keeps (switch_text c (cases_text cs) a)
switch_fits c lc cs every a ka = counted_fits (BeginLoop (length c + length (cases_text cs) + length a + 2) ∷ (c ++ (cases_text cs ++ (Pop ∷ (a ++ EndLoop ∷ []))))) (λ l behind g.
    let m = l + 1 in
    let ts = cases_text cs in
    let F = at 0 m ∷ behind in
    let A = ka m F refl in
    let G = at 1 m ∷ A.0 in
    let T = cases_fit cs every m G refl A.2 in
    let C = lc 0 m T.all T.first in
    let last : AreFine (EndLoop ∷ []) F behind = ((refl, l, refl, g), refl) in
    let default : AreFine (Pop ∷ (a ++ EndLoop ∷ [])) G behind = ((0, 0, refl, refl, A.2), fine_append a (EndLoop ∷ []) A.0 F behind A.1 last) in
    let tests : AreFine (ts ++ (Pop ∷ (a ++ EndLoop ∷ []))) T.all behind = fine_append ts _ T.all G behind T.fine default in
    let n = length c + length ts + length a + 2 in
    let past_c : n ≡ length c + (length ts + suc (length a + 1)) = omega arith in
    let exit : Leads C.0 n (at 0 l) =
    passed c C.0 T.all (length ts + suc (length a + 1)) n C.1 past_c ∙ passed ts T.all G (suc (length a + 1)) (length ts + suc (length a + 1)) T.fine refl
    ∙ passed a A.0 F 1 (length a + 1) A.1 refl ∙ g in
    (at 0 l ∷ C.0, ((refl, C.2, exit), fine_append c _ C.0 T.all behind C.1 tests), refl))

return_fits : (o : Option Expr) → Keeps (CountStatement ∷ return_text o)
return_fits None = counted_fits (Push (val.Int (pos 1)) ∷ Return ∷ []) (λ l behind g. (at 0 l ∷ at 1 l ∷ behind, ((0, 1, refl, refl, refl), (refl, refl)), refl))
return_fits (Some e) = counted_fits (expr_code e AsValue ++ Return ∷ []) (λ l behind g.
    let C = expr_fits e AsValue 0 l (at 1 l ∷ behind) refl in
    (C.0, fine_append (expr_code e AsValue) (Return ∷ []) C.0 (at 1 l ∷ behind) behind C.1 (refl, refl), C.2))

abbrev StmtFits : Stmt → Type 0
StmtFits s = Keeps (stmt_code s)

abbrev Stmts : Type 0
Stmts = List ((s : Stmt) × StmtFits s)

abbrev stmt_texts : Stmts → List Text
stmt_texts ys = map stmt_code (map (λ (e : (s : Stmt) × StmtFits s). e.0) ys)

stmt_pairs : (ys : Stmts) → Every Keeps (stmt_texts ys)
stmt_pairs [] = tt
stmt_pairs (y ∷ ys) = (y.1, stmt_pairs ys)

abbrev case_texts : List (Val × Stmts) → List (Val × List Text)
case_texts ys = map (λ (c : Val × List Stmt). (c.0, map stmt_code c.1)) (map (λ (c : Val × Stmts). (c.0, map (λ (e : (s : Stmt) × StmtFits s). e.0) c.1)) ys)

case_pairs : (ys : List (Val × Stmts)) → Every (λ (c : Val × List Text). Every Keeps c.1) (case_texts ys)
case_pairs [] = tt
case_pairs (y ∷ ys) = (stmt_pairs y.1, case_pairs ys)

stmt_layer : (y : Stmt-F ((s : Stmt) × StmtFits s)) → Keeps (stmt_text (map-Stmt _ _ stmt_code (map-Stmt _ _ (λ e. e.0) y)))
stmt_layer (Stmt-F.Set x e) = set_fits x (expr_code e AsValue) (expr_fits e AsValue)
stmt_layer (Stmt-F.Do e) = take_fits Pop (λ s b m. m) (expr_code e AsValue) (expr_fits e AsValue)
stmt_layer (Stmt-F.If e a b) = if_fits (expr_code e AsTruth) (texts_joined (stmt_texts a)) (texts_joined (stmt_texts b)) (expr_fits e AsTruth) (joined_fits (stmt_texts a) (stmt_pairs a)) (joined_fits (stmt_texts b) (stmt_pairs b))
stmt_layer (Stmt-F.While e body) = while_fits (expr_code e AsTruth) (texts_joined (stmt_texts body)) (expr_fits e AsTruth) (joined_fits (stmt_texts body) (stmt_pairs body))
stmt_layer (Stmt-F.Switch e cs last) = switch_fits (expr_code e AsValue) (expr_fits e AsValue) (case_texts cs) (case_pairs cs) (texts_joined (stmt_texts last)) (joined_fits (stmt_texts last) (stmt_pairs last))
stmt_layer Stmt-F.Break = λ l behind g. (at 0 l ∷ behind, (refl, refl), refl)
stmt_layer (Stmt-F.Return o) = return_fits o
stmt_layer Stmt-F.Exit = counted_fits (Exit ∷ []) (λ l behind g. (at 0 l ∷ behind, (tt, refl), refl))
stmt_layer Stmt-F.Drop = counted_fits (Drop ∷ []) (λ l behind g. (at 0 l ∷ behind, (tt, refl), refl))

stmt_fits : (s : Stmt) → StmtFits s
stmt_fits = ind-Stmt StmtFits (λ x y is. subst (λ x. StmtFits (roll-Stmt x)) is (
    let x = map-Stmt ((s : Stmt) × StmtFits s) Stmt (λ e. e.0) y in
    subst (λ c. Keeps c) (sym (fold-roll-Stmt Text stmt_text x)) (stmt_layer y)))

stmts_fit : (block : List Stmt) → Every Keeps (map stmt_code block)
stmts_fit [] = tt
stmts_fit (x ∷ xs) = (stmt_fits x, stmts_fit xs)

-- a whole block
pub block_shaped : (block : List Stmt) (behind : List Shape) → Shaped (text_of_block block) nothing behind
block_shaped block behind =
    let c = list_code block in
    let C = joined_fits (map stmt_code block) (stmts_fit block) 0 (nothing ∷ behind) refl in
    (C.0, fine_append c (EndBlock ∷ []) C.0 (nothing ∷ behind) behind C.1 (refl, refl), C.2)

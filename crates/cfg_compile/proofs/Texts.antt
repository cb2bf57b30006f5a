-- The text of a list, one item more at a time, and of the constructs that have a list.
use Rattle.std.proofs.Common.{◌≡◌, ℕ, ◌+◌, ◌<◌, ◌≤◌, List, [], ◌∷◌, ◌++◌, length, take, get_or, refl, subst, sym, ap, ◌∙◌, append_assoc, append-nil}
use Rattle.std.proofs.lemmas.List.{take_more, take_all}
use Rattle.std.specs.Prelude.{IfOk}
use Rattle.std.specs.declared.result.Result.{Result}
use Rattle.std.specs.declared.alloc.AllocError.{AllocError}
use Rattle.pv_values.specs.declared.value.Val.{Val}
use Rattle.pv_values.specs.declared.operator.BinOp.{BinOp}
use Rattle.cfg_tree.specs.declared.script.Part.{Part}
use Rattle.cfg_tree.specs.declared.script.Expr.{Expr}
use Rattle.cfg_tree.specs.declared.script.Expr.TheVariants.{Chain, rolls-Chain}
use Rattle.cfg_tree.specs.declared.script.Expr.TheOpen.{Expr-F}
use Rattle.cfg_tree.specs.declared.script.Expr.TheFolds.{fold-roll-Expr}
use Rattle.cfg_tree.specs.declared.script.Stmt.{Stmt}
use Rattle.cfg_tree.specs.declared.script.Stmt.TheVariants.{Switch, rolls-Switch}
use Rattle.cfg_tree.specs.declared.script.Stmt.TheOpen.{Stmt-F}
use Rattle.cfg_tree.specs.declared.script.Stmt.TheFolds.{fold-roll-Stmt}
use Rattle.cfg_tree.specs.Meaning.{Wanted, AsValue, AsTruth}
use Rattle.cfg_code.specs.declared.instr.Instr.{Instr}
use Rattle.cfg_code.specs.Code.{Text, concat_text, part_code, concats_code, argument_text, expansion_code, arguments_code, link_text, and_text, or_text, expr_text, expr_code, links_code, ands_code, ors_code, stmt_text, stmt_code, list_code, case_text, cases_code, switch_text}

module _ (A : Type 0) (g : List A → Text) (f : A → Text) (nil : g [] ≡ []) (cons : (x : A) (xs : List A) → g (x ∷ xs) ≡ f x ++ g xs) where
  push : (xs : List A) (x : A) → g (xs ++ x ∷ []) ≡ g xs ++ f x
  push [] x = cons x [] ∙ ap (λ t. f x ++ t) nil ∙ append-nil (f x) ∙ ap (λ t. t ++ f x) (sym nil)
  push (y ∷ ys) x = cons y (ys ++ x ∷ []) ∙ ap (λ t. f y ++ t) (push ys x) ∙ sym (append_assoc (f y) (g ys) (f x)) ∙ ap (λ t. t ++ f x) (sym (cons y ys))

  pub one_more : (xs : List A) (i : ℕ) (x : A) (t u t' : Text) → i < length xs → x ≡ get_or xs i x → t ≡ g (take i xs) → u ≡ f x → t' ≡ t ++ u → t' ≡ g (take (i + 1) xs)
  one_more xs i x t u t' h is e new whole =
      let next : take (i + 1) xs ≡ take i xs ++ x ∷ [] = take_more xs i x h ∙ ap (λ y. take i xs ++ y ∷ []) (sym is) in
      whole ∙ ap (λ y. y ++ u) e ∙ ap (λ y. g (take i xs) ++ y) new ∙ sym (push (take i xs) x) ∙ ap g (sym next)

pub concats_more : (xs : List Part) (i : ℕ) (x : Part) (t u t' : Text) → i < length xs → x ≡ get_or xs i x → t ≡ concats_code (take i xs) → u ≡ concat_text (part_code x) → t' ≡ t ++ u → t' ≡ concats_code (take (i + 1) xs)
concats_more = one_more Part concats_code (λ x. concat_text (part_code x)) refl (λ x xs. refl)

pub arguments_more : (xs : List (List Part)) (i : ℕ) (x : List Part) (t u t' : Text) → i < length xs → x ≡ get_or xs i x → t ≡ arguments_code (take i xs) → u ≡ argument_text (expansion_code x) → t' ≡ t ++ u → t' ≡ arguments_code (take (i + 1) xs)
arguments_more = one_more (List Part) arguments_code (λ x. argument_text (expansion_code x)) refl (λ x xs. refl)

pub links_more : (xs : List (BinOp × Expr)) (i : ℕ) (x : BinOp × Expr) (t u t' : Text) → i < length xs → x ≡ get_or xs i x → t ≡ links_code (take i xs) → u ≡ link_text x.0 (expr_code x.1 AsValue) → t' ≡ t ++ u → t' ≡ links_code (take (i + 1) xs)
links_more = one_more (BinOp × Expr) links_code (λ x. link_text x.0 (expr_code x.1 AsValue)) refl (λ x xs. refl)

pub ands_more : (xs : List Expr) (i : ℕ) (x : Expr) (t u t' : Text) → i < length xs → x ≡ get_or xs i x → t ≡ ands_code (take i xs) → u ≡ and_text (expr_code x AsTruth) → t' ≡ t ++ u → t' ≡ ands_code (take (i + 1) xs)
ands_more = one_more Expr ands_code (λ x. and_text (expr_code x AsTruth)) refl (λ x xs. refl)

pub ors_more : (xs : List Expr) (i : ℕ) (x : Expr) (t u t' : Text) → i < length xs → x ≡ get_or xs i x → t ≡ ors_code (take i xs) → u ≡ or_text (expr_code x AsTruth) → t' ≡ t ++ u → t' ≡ ors_code (take (i + 1) xs)
ors_more = one_more Expr ors_code (λ x. or_text (expr_code x AsTruth)) refl (λ x xs. refl)

pub list_more : (xs : List Stmt) (i : ℕ) (x : Stmt) (t u t' : Text) → i < length xs → x ≡ get_or xs i x → t ≡ list_code (take i xs) → u ≡ stmt_code x → t' ≡ t ++ u → t' ≡ list_code (take (i + 1) xs)
list_more = one_more Stmt list_code stmt_code refl (λ x xs. refl)

pub cases_more : (xs : List (Val × List Stmt)) (i : ℕ) (x : Val × List Stmt) (t u t' : Text) → i < length xs → x ≡ get_or xs i x → t ≡ cases_code (take i xs) → u ≡ case_text x.0 (list_code x.1) → t' ≡ t ++ u → t' ≡ cases_code (take (i + 1) xs)
cases_more = one_more (Val × List Stmt) cases_code (λ x. case_text x.0 (list_code x.1)) refl (λ x xs. refl)

chain_code : (a : Expr) (links : List (BinOp × Expr)) (w : Wanted) → expr_code (Chain a links) w ≡ expr_code a AsValue ++ links_code links
chain_code a links w = ap (λ e. expr_code e w) (sym (rolls-Chain a links)) ∙ ap (λ t. t w) (fold-roll-Expr (Wanted → Text) expr_text (Expr-F.Chain a links))

pub chain_whole : (e a : Expr) (links : List (BinOp × Expr)) (w : Wanted) (r : Result (List Instr) AllocError) (first tail : List Instr) (i : ℕ) → e ≡ Chain a links →
    IfOk r (λ text. text ≡ first ++ tail) → first ≡ expr_code a AsValue → length links ≤ i → tail ≡ links_code (take i links) → IfOk r (λ text. text ≡ expr_code e w)
chain_whole e a links w r first tail i is h f past g =
    let all : take i links ≡ links = take_all i links past in
    let same : first ++ tail ≡ expr_code e w = ap (λ x. x ++ tail) f ∙ ap (λ x. expr_code a AsValue ++ x) (g ∙ ap links_code all) ∙ sym (chain_code a links w) ∙ ap (λ e. expr_code e w) (sym is) in
    subst (λ x. IfOk r (λ text. text ≡ x)) same h

switch_code : (e : Expr) (cases : List (Val × List Stmt)) (default : List Stmt) → stmt_code (Switch e cases default) ≡ switch_text (expr_code e AsValue) (cases_code cases) (list_code default)
switch_code e cases default = ap stmt_code (sym (rolls-Switch e cases default)) ∙ fold-roll-Stmt Text stmt_text (Stmt-F.Switch e cases default)

pub switch_whole : (s : Stmt) (e : Expr) (cases : List (Val × List Stmt)) (default : List Stmt) (r : Result (List Instr) AllocError) (t ts l : List Instr) (i : ℕ) → s ≡ Switch e cases default →
    IfOk r (λ text. text ≡ switch_text t ts l) → t ≡ expr_code e AsValue → length cases ≤ i → ts ≡ cases_code (take i cases) → l ≡ list_code default → IfOk r (λ text. text ≡ stmt_code s)
switch_whole s e cases default r t ts l i is h a past b c =
    let all : take i cases ≡ cases = take_all i cases past in
    let same : switch_text t ts l ≡ stmt_code s =
    ap (λ x. switch_text x ts l) a ∙ ap (λ x. switch_text (expr_code e AsValue) x l) (b ∙ ap cases_code all) ∙ ap (λ x. switch_text (expr_code e AsValue) (cases_code cases) x) c ∙ sym (switch_code e cases default) ∙ ap stmt_code (sym is) in
    subst (λ x. IfOk r (λ text. text ≡ x)) same h

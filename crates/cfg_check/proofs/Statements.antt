-- What follows the check of a statement.
use Rattle.std.proofs.Common.{◌≡◌, Bool, true, false, List, [], ◌∷◌, map, Option, Some, None, refl, sym, ap, ◌∙◌, subst}
use Rattle.std.specs.Prelude.{IfOk, option_map}
use Rattle.std.specs.declared.result.Result.{Result}
use Rattle.std.specs.declared.alloc.AllocError.{AllocError}
use Rattle.std.proofs.lemmas.Simd.{map-map}
use Rattle.pv_values.specs.declared.refusal.Place.{Place}
use Rattle.pv_values.specs.declared.value.Val.{Val}
use Rattle.cfg_tree.specs.declared.raw.RouteKind.{RouteKind}
use Rattle.cfg_tree.specs.declared.raw.RawVariable.{RawVariable}
use Rattle.cfg_tree.specs.declared.raw.RawCall.{RawCall}
use Rattle.cfg_tree.specs.declared.raw.RawExpr.{RawExpr}
use Rattle.cfg_tree.specs.declared.raw.RawStmt.{RawStmt}
use Rattle.cfg_tree.specs.declared.raw.RawStmt.TheVariants as raw
use Rattle.cfg_tree.specs.declared.raw.RawStmt.TheOpen.{RawStmt-F}
use Rattle.cfg_tree.specs.declared.raw.RawStmt.TheFolds.{fold-roll-RawStmt}
use Rattle.cfg_tree.specs.declared.script.Expr.{Expr}
use Rattle.cfg_tree.specs.declared.script.Target.{Target}
use Rattle.cfg_tree.specs.declared.script.Stmt.{Stmt}
use Rattle.cfg_tree.specs.declared.script.Stmt.TheVariants as stmt
use Rattle.cfg_tree.specs.declared.script.Stmt.TheOpen.{Stmt-F}
use Rattle.cfg_tree.specs.declared.script.Stmt.TheViews.{roll-Stmt}
use Rattle.cfg_tree.specs.Names.{Known}
use Rattle.cfg_tree.specs.Refusals.{Checked, accepted, join, one, both, three, each}
use Rattle.cfg_tree.specs.Checks.{expr_in, call_in, target_of, maybe_expr, maybe, numbered, all_in, stmt_step, stmt_in}
use Rattle.cfg_calls.specs.Following.{CheckState, Follows, Counts, within_limit}
use Rattle.cfg_check.specs.Cases.{Begins, case_in, cases_in, switch_in}
use Rattle.cfg_calls.proofs.Follows.{follows_accepted, follows_one, follows_both, follows_three, follows_numbered, ok_follows}

abbrev pub single : Option Stmt → Option (List Stmt)
single = option_map (λ s. s ∷ [])

-- ---- a statement that is counted

counted : (at : Place) (m : Checked (List Stmt)) (a b d : CheckState) (within : Bool) (v : Option (List Stmt)) (r : Result (Option (List Stmt)) AllocError) →
    Counts at a within b → Follows m b v d → IfOk r (λ x. x ≡ within_limit within v) → IfOk r (λ x. Follows (numbered at m) a x d)
counted at m a b d within v r counts h made =
    ok_follows (numbered at m) a d (within_limit within v) r (follows_numbered at m a b d within v (within_limit within v) counts h refl) made

within_single : (within : Bool) (s : Option Stmt) → single (within_limit within s) ≡ within_limit within (single s)
within_single true s = refl
within_single false s = refl

alone : (at : Place) (m : Checked (List Stmt)) (a b d : CheckState) (within : Bool) (s : Option Stmt) (v : Option (List Stmt)) (r : Result (Option (List Stmt)) AllocError) →
    Counts at a within b → Follows m b v d → v ≡ single s → IfOk r (λ x. x ≡ single (within_limit within s)) → IfOk r (λ x. Follows (numbered at m) a x d)
alone at m a b d within s v r counts h is made =
    counted at m a b d within v r counts h (subst (λ y. IfOk r (λ x. x ≡ y)) (within_single within s ∙ ap (within_limit within) (sym is)) made)

map_single : {A : Type 0} (f : A → Stmt) (x : Option A) → option_map (λ a. f a ∷ []) x ≡ single (option_map f x)
map_single f None = refl
map_single f (Some a) = refl

join_single : {A B : Type 0} (f : A → B → Stmt) (x : Option A) (y : Option B) → join (λ a b. f a b ∷ []) x y ≡ single (join f x y)
join_single f None y = refl
join_single f (Some a) None = refl
join_single f (Some a) (Some b) = refl

three_single : {A B C : Type 0} (f : A → B → C → Stmt) (x : Option A) (y : Option B) (z : Option C) →
    join {A = C → List Stmt} (λ p q. p q) (join (λ a b c. f a b c ∷ []) x y) z ≡ single (join {A = C → Stmt} (λ p q. p q) (join f x y) z)
three_single f None y z = refl
three_single f (Some a) None z = refl
three_single f (Some a) (Some b) None = refl
three_single f (Some a) (Some b) (Some c) = refl

pub simple_follows : (at : Place) (s : Stmt) (a b : CheckState) (within : Bool) (r : Result (Option (List Stmt)) AllocError) → Counts at a within b →
    IfOk r (λ x. x ≡ single (within_limit within (Some s))) → IfOk r (λ x. Follows (numbered at (accepted (s ∷ []))) a x b)
simple_follows at s a b within r counts made = alone at (accepted (s ∷ [])) a b b within (Some s) (Some (s ∷ [])) r counts (follows_accepted (s ∷ []) b) refl made

pub set_follows : (known : Known) (kind : RouteKind) (at : Place) (v : RawVariable) (e : RawExpr) (a b c d : CheckState) (within : Bool) (target : Option Target) (value : Option Expr) (s : Option Stmt)
    (r : Result (Option (List Stmt)) AllocError) → Counts at a within b → Follows (target_of known kind v) b target c → Follows (expr_in known kind e) c value d →
    s ≡ join (λ t x. roll-Stmt (Stmt-F.Set t x)) target value → IfOk r (λ x. x ≡ single (within_limit within s)) → IfOk r (λ x. Follows (stmt_step known kind (RawStmt-F.Set at v e)) a x d)
set_follows known kind at v e a b c d within target value s r counts first second is made =
    alone at (both (λ t x. roll-Stmt (Stmt-F.Set t x) ∷ []) (target_of known kind v) (expr_in known kind e)) a b d within s (join (λ t x. roll-Stmt (Stmt-F.Set t x) ∷ []) target value) r counts
    (follows_both (λ t x. roll-Stmt (Stmt-F.Set t x) ∷ []) (target_of known kind v) (expr_in known kind e) b c d target value _ first second refl)
    (join_single (λ t x. roll-Stmt (Stmt-F.Set t x)) target value ∙ ap single (sym is)) made

pub do_follows : (known : Known) (kind : RouteKind) (at : Place) (call : RawCall) (a b d : CheckState) (within : Bool) (e : Option Expr) (s : Option Stmt) (r : Result (Option (List Stmt)) AllocError) →
    Counts at a within b → Follows (call_in known kind call) b e d → s ≡ option_map (λ x. roll-Stmt (Stmt-F.Do x)) e → IfOk r (λ x. x ≡ single (within_limit within s)) →
    IfOk r (λ x. Follows (stmt_step known kind (RawStmt-F.Do at call)) a x d)
do_follows known kind at call a b d within e s r counts first is made =
    alone at (one (λ x. roll-Stmt (Stmt-F.Do x) ∷ []) (call_in known kind call)) a b d within s (option_map (λ x. roll-Stmt (Stmt-F.Do x) ∷ []) e) r counts
    (follows_one (λ x. roll-Stmt (Stmt-F.Do x) ∷ []) (call_in known kind call) b d e _ first refl)
    (map_single (λ x. roll-Stmt (Stmt-F.Do x)) e ∙ ap single (sym is)) made

pub return_follows : (known : Known) (kind : RouteKind) (at : Place) (e : Option RawExpr) (a b d : CheckState) (within : Bool) (v : Option (Option Expr)) (s : Option Stmt) (r : Result (Option (List Stmt)) AllocError) →
    Counts at a within b → Follows (maybe_expr known kind e) b v d → s ≡ option_map (λ x. roll-Stmt (Stmt-F.Return x)) v → IfOk r (λ x. x ≡ single (within_limit within s)) →
    IfOk r (λ x. Follows (stmt_step known kind (RawStmt-F.Return at e)) a x d)
return_follows known kind at e a b d within v s r counts first is made =
    alone at (one (λ x. roll-Stmt (Stmt-F.Return x) ∷ []) (maybe_expr known kind e)) a b d within s (option_map (λ x. roll-Stmt (Stmt-F.Return x) ∷ []) v) r counts
    (follows_one (λ x. roll-Stmt (Stmt-F.Return x) ∷ []) (maybe_expr known kind e) b d v _ first refl)
    (map_single (λ x. roll-Stmt (Stmt-F.Return x)) v ∙ ap single (sym is)) made

pub empty_follows : (at : Place) (a b : CheckState) (within : Bool) (xs : List Stmt) (r : Option (List Stmt)) → Counts at a within b → xs ≡ [] → r ≡ within_limit within (Some xs) → Follows (numbered at (accepted [])) a r b
empty_follows at a b within xs r counts none is =
    follows_numbered at (accepted []) a b b within (Some []) r counts (follows_accepted [] b) (is ∙ ap (λ x. within_limit within (Some x)) none)

-- ---- statements with others in them

pub group_follows : (at : Place) (m : Checked (List Stmt)) (a b d : CheckState) (within : Bool) (v r : Option (List Stmt)) → Counts at a within b → Follows m b v d → r ≡ within_limit within v → Follows (numbered at m) a r d
group_follows at m a b d within v r counts h is = follows_numbered at m a b d within v r counts h is

pub case_follows : (known : Known) (kind : RouteKind) (item : Val × List RawStmt) (body' : List RawStmt) (b d : CheckState) (v : Option (List Stmt)) (r : Option (Val × List Stmt)) → body' ≡ item.1 →
    Follows (all_in (map (stmt_in known kind) body')) b v d → r ≡ option_map (λ ss. (item.0, ss)) v → Follows (case_in known kind item) b r d
case_follows known kind item body' b d v r same h is =
    follows_one (λ ss. (item.0, ss)) (all_in (map (stmt_in known kind) item.1)) b d v r (subst (λ l. Follows (all_in (map (stmt_in known kind) l)) b v d) same h) is

pub if_follows : (known : Known) (kind : RouteKind) (at : Place) (e : RawExpr) (m n : Checked (List Stmt)) (other : Option (Checked (List Stmt))) (a b c d f : CheckState) (within : Bool)
    (test : Option Expr) (first second : Option (List Stmt)) (s : Option Stmt) (r : Result (Option (List Stmt)) AllocError) → n ≡ maybe other →
    Counts at a within b → Follows (expr_in known kind e) b test c → Follows m c first d → Follows n d second f →
    s ≡ join {A = List Stmt → Stmt} (λ g x. g x) (join (λ e ss more. roll-Stmt (Stmt-F.If e ss more)) test first) second → IfOk r (λ x. x ≡ single (within_limit within s)) →
    IfOk r (λ x. Follows (stmt_step known kind (RawStmt-F.If at e m other)) a x f)
if_follows known kind at e m n other a b c d f within test first second s r same counts first_follows second_follows last is made =
    let last' : Follows (maybe other) d second f = subst (λ k. Follows k d second f) same last in
    alone at (three (λ e ss more. roll-Stmt (Stmt-F.If e ss more) ∷ []) (expr_in known kind e) m (maybe other)) a b f within s
    (join {A = List Stmt → List Stmt} (λ g x. g x) (join (λ e ss more. roll-Stmt (Stmt-F.If e ss more) ∷ []) test first) second) r counts
    (follows_three (λ e ss more. roll-Stmt (Stmt-F.If e ss more) ∷ []) (expr_in known kind e) m (maybe other) b c d f test first second _ first_follows second_follows last' refl)
    (three_single (λ e ss more. roll-Stmt (Stmt-F.If e ss more)) test first second ∙ ap single (sym is)) made

pub while_follows : (known : Known) (kind : RouteKind) (at : Place) (e : RawExpr) (m : Checked (List Stmt)) (a b c d : CheckState) (within : Bool) (test : Option Expr) (body : Option (List Stmt)) (s : Option Stmt)
    (r : Result (Option (List Stmt)) AllocError) → Counts at a within b → Follows (expr_in known kind e) b test c → Follows m c body d →
    s ≡ join (λ e ss. roll-Stmt (Stmt-F.While e ss)) test body → IfOk r (λ x. x ≡ single (within_limit within s)) → IfOk r (λ x. Follows (stmt_step known kind (RawStmt-F.While at e m)) a x d)
while_follows known kind at e m a b c d within test body s r counts first second is made =
    alone at (both (λ e ss. roll-Stmt (Stmt-F.While e ss) ∷ []) (expr_in known kind e) m) a b d within s (join (λ e ss. roll-Stmt (Stmt-F.While e ss) ∷ []) test body) r counts
    (follows_both (λ e ss. roll-Stmt (Stmt-F.While e ss) ∷ []) (expr_in known kind e) m b c d test body _ first second refl)
    (join_single (λ e ss. roll-Stmt (Stmt-F.While e ss)) test body ∙ ap single (sym is)) made

pub switch_follows : (known : Known) (kind : RouteKind) (at : Place) (e : RawExpr) (cases : List (Val × List RawStmt)) (default : List RawStmt) (a b c d f : CheckState) (within : Bool)
    (value : Option Expr) (bodies : Option (List (Val × List Stmt))) (last : Option (List Stmt)) (s : Option Stmt) (r : Result (Option (List Stmt)) AllocError) →
    Counts at a within b → Follows (expr_in known kind e) b value c → Follows (cases_in known kind cases) c bodies d → Follows (all_in (map (stmt_in known kind) default)) d last f →
    s ≡ join {A = List Stmt → Stmt} (λ g x. g x) (join (λ e cs last. roll-Stmt (Stmt-F.Switch e cs last)) value bodies) last → IfOk r (λ x. x ≡ single (within_limit within s)) →
    IfOk r (λ x. Follows (switch_in known kind at e cases default) a x f)
switch_follows known kind at e cases default a b c d f within value bodies last s r counts value_follows cases_follow end is made =
    alone at (three (λ e cs last. roll-Stmt (Stmt-F.Switch e cs last) ∷ []) (expr_in known kind e) (cases_in known kind cases) (all_in (map (stmt_in known kind) default))) a b f within s
    (join {A = List Stmt → List Stmt} (λ g x. g x) (join (λ e cs last. roll-Stmt (Stmt-F.Switch e cs last) ∷ []) value bodies) last) r counts
    (follows_three (λ e cs last. roll-Stmt (Stmt-F.Switch e cs last) ∷ []) (expr_in known kind e) (cases_in known kind cases) (all_in (map (stmt_in known kind) default)) b c d f value bodies last _ value_follows cases_follow end refl)
    (three_single (λ e cs last. roll-Stmt (Stmt-F.Switch e cs last)) value bodies last ∙ ap single (sym is)) made

-- ---- the check of a statement, by what it is

-- an answer for a statement, by the same check
abbrev Fits : Known → RouteKind → Checked (List Stmt) → RawStmt → Type 0
Fits known kind m s = m ≡ stmt_in known kind s

if_is : (known : Known) (kind : RouteKind) (at : Place) (e : RawExpr) (first : RawStmt) (other : Option RawStmt) →
    stmt_step known kind (RawStmt-F.If at e (stmt_in known kind first) (option_map (stmt_in known kind) other)) ≡ stmt_in known kind (raw.If at e first other)
if_is known kind at e first None =
    sym (ap (stmt_in known kind) (sym (raw.rolls-If at e first None)) ∙ fold-roll-RawStmt (Checked (List Stmt)) (stmt_step known kind) (RawStmt-F.If at e first None))
if_is known kind at e first (Some o) =
    sym (ap (stmt_in known kind) (sym (raw.rolls-If at e first (Some o))) ∙ fold-roll-RawStmt (Checked (List Stmt)) (stmt_step known kind) (RawStmt-F.If at e first (Some o)))

pub fits_if : (known : Known) (kind : RouteKind) (s : RawStmt) (at : Place) (e : RawExpr) (first first' : RawStmt) (other : Option RawStmt) → s ≡ raw.If at e first other → first' ≡ first →
    Fits known kind (stmt_step known kind (RawStmt-F.If at e (stmt_in known kind first') (option_map (stmt_in known kind) other))) s
fits_if known kind s at e first first' other is same = rw (is, same) (if_is known kind at e first other)

pub fits_while : (known : Known) (kind : RouteKind) (s : RawStmt) (at : Place) (e : RawExpr) (body body' : RawStmt) → s ≡ raw.While at e body → body' ≡ body →
    Fits known kind (stmt_step known kind (RawStmt-F.While at e (stmt_in known kind body'))) s
fits_while known kind s at e body body' is same = rw (is, same)
    (sym (ap (stmt_in known kind) (sym (raw.rolls-While at e body)) ∙ fold-roll-RawStmt (Checked (List Stmt)) (stmt_step known kind) (RawStmt-F.While at e body)))

switch_is : (known : Known) (kind : RouteKind) (at : Place) (e : RawExpr) (cases : List (Val × List RawStmt)) (default : List RawStmt) →
    stmt_in known kind (raw.Switch at e cases default) ≡ switch_in known kind at e cases default
switch_is known kind at e cases default =
    ap (stmt_in known kind) (sym (raw.rolls-Switch at e cases default)) ∙ fold-roll-RawStmt (Checked (List Stmt)) (stmt_step known kind) (RawStmt-F.Switch at e cases default)
    ∙ ap (λ cs. numbered at (three (λ e cs last. roll-Stmt (Stmt-F.Switch e cs last) ∷ []) (expr_in known kind e) (each cs) (all_in (map (stmt_in known kind) default))))
    (map-map (λ (c : Val × List (Checked (List Stmt))). one (λ ss. (c.0, ss)) (all_in c.1)) (λ (c : Val × List RawStmt). (c.0, map (stmt_in known kind) c.1)) cases)

pub fits_switch : (known : Known) (kind : RouteKind) (s : RawStmt) (at : Place) (e : RawExpr) (cases cases' : List (Val × List RawStmt)) (default default' : List RawStmt) →
    s ≡ raw.Switch at e cases default → cases' ≡ cases → default' ≡ default → Fits known kind (switch_in known kind at e cases' default') s
fits_switch known kind s at e cases cases' default default' is same last = rw (is, same, last) (sym (switch_is known kind at e cases default))

pub fits_set : (known : Known) (kind : RouteKind) (s : RawStmt) (at : Place) (v : RawVariable) (e : RawExpr) → s ≡ raw.Set at v e → Fits known kind (stmt_step known kind (RawStmt-F.Set at v e)) s
fits_set known kind s at v e is = rw is
    (sym (ap (stmt_in known kind) (sym (raw.rolls-Set at v e)) ∙ fold-roll-RawStmt (Checked (List Stmt)) (stmt_step known kind) (RawStmt-F.Set at v e)))

pub fits_do : (known : Known) (kind : RouteKind) (s : RawStmt) (at : Place) (call : RawCall) → s ≡ raw.Do at call → Fits known kind (stmt_step known kind (RawStmt-F.Do at call)) s
fits_do known kind s at call is = rw is
    (sym (ap (stmt_in known kind) (sym (raw.rolls-Do at call)) ∙ fold-roll-RawStmt (Checked (List Stmt)) (stmt_step known kind) (RawStmt-F.Do at call)))

pub fits_return : (known : Known) (kind : RouteKind) (s : RawStmt) (at : Place) (e : Option RawExpr) → s ≡ raw.Return at e → Fits known kind (stmt_step known kind (RawStmt-F.Return at e)) s
fits_return known kind s at e is = rw is
    (sym (ap (stmt_in known kind) (sym (raw.rolls-Return at e)) ∙ fold-roll-RawStmt (Checked (List Stmt)) (stmt_step known kind) (RawStmt-F.Return at e)))

pub fits_exit : (known : Known) (kind : RouteKind) (s : RawStmt) (at : Place) → s ≡ raw.Exit at → Fits known kind (numbered at (accepted (stmt.Exit ∷ []))) s
fits_exit known kind s at is = rw is (ap (λ x. numbered at (accepted (x ∷ []))) (sym stmt.rolls-Exit)
    ∙ sym (ap (stmt_in known kind) (sym (raw.rolls-Exit at)) ∙ fold-roll-RawStmt (Checked (List Stmt)) (stmt_step known kind) (RawStmt-F.Exit at)))

pub fits_drop : (known : Known) (kind : RouteKind) (s : RawStmt) (at : Place) → s ≡ raw.Drop at → Fits known kind (numbered at (accepted (stmt.Drop ∷ []))) s
fits_drop known kind s at is = rw is (ap (λ x. numbered at (accepted (x ∷ []))) (sym stmt.rolls-Drop)
    ∙ sym (ap (stmt_in known kind) (sym (raw.rolls-Drop at)) ∙ fold-roll-RawStmt (Checked (List Stmt)) (stmt_step known kind) (RawStmt-F.Drop at)))

pub fits_break : (known : Known) (kind : RouteKind) (s : RawStmt) (at : Place) → s ≡ raw.Break at → Fits known kind (numbered at (accepted (stmt.Break ∷ []))) s
fits_break known kind s at is = rw is (ap (λ x. numbered at (accepted (x ∷ []))) (sym stmt.rolls-Break)
    ∙ sym (ap (stmt_in known kind) (sym (raw.rolls-Break at)) ∙ fold-roll-RawStmt (Checked (List Stmt)) (stmt_step known kind) (RawStmt-F.Break at)))

pub fits_group : (known : Known) (kind : RouteKind) (s : RawStmt) (at : Place) (ss ss' : List RawStmt) → s ≡ raw.Group at ss → ss' ≡ ss → Fits known kind (numbered at (all_in (map (stmt_in known kind) ss'))) s
fits_group known kind s at ss ss' is same = rw (is, same)
    (sym (ap (stmt_in known kind) (sym (raw.rolls-Group at ss)) ∙ fold-roll-RawStmt (Checked (List Stmt)) (stmt_step known kind) (RawStmt-F.Group at ss)))

pub fits_empty : (known : Known) (kind : RouteKind) (s : RawStmt) (at : Place) → s ≡ raw.Empty at → Fits known kind (numbered at (accepted [])) s
fits_empty known kind s at is = rw is
    (sym (ap (stmt_in known kind) (sym (raw.rolls-Empty at)) ∙ fold-roll-RawStmt (Checked (List Stmt)) (stmt_step known kind) (RawStmt-F.Empty at)))

-- ---- statements with others in them, as a whole

pairs : {X : Type 0} (f : Expr → X → Stmt) (within : Bool) (v : Option Expr) (x : Option X) →
    option_map (λ (p : Expr × X). f p.0 p.1) (within_limit within (join (λ e y. (e, y)) v x)) ≡ within_limit within (join f v x)
pairs f false v x = refl
pairs f true None x = refl
pairs f true (Some e) None = refl
pairs f true (Some e) (Some x) = refl

pair_and : {X : Type 0} (f : Expr → X → List Stmt → Stmt) (within : Bool) (v : Option Expr) (x : Option X) (z : Option (List Stmt)) →
    join (λ (p : Expr × X) (o : List Stmt). f p.0 p.1 o) (within_limit within (join (λ e y. (e, y)) v x)) z ≡ within_limit within (join {A = List Stmt → Stmt} (λ g o. g o) (join f v x) z)
pair_and f false v x z = refl
pair_and f true None x z = refl
pair_and f true (Some e) None z = refl
pair_and f true (Some e) (Some x) None = refl
pair_and f true (Some e) (Some x) (Some o) = refl

pub if_stmt : (known : Known) (kind : RouteKind) (s : RawStmt) (at : Place) (e : RawExpr) (first first' : RawStmt) (other : Option RawStmt) (a d f : CheckState) (begun : Option (Expr × List Stmt))
    (others : Option (List Stmt)) (st : Option Stmt) (r : Result (Option (List Stmt)) AllocError) → s ≡ raw.If at e first other → first' ≡ first → Begins known kind at e (stmt_in known kind first') a begun d →
    Follows (maybe (option_map (stmt_in known kind) other)) d others f → st ≡ join (λ (p : Expr × List Stmt) (more : List Stmt). roll-Stmt (Stmt-F.If p.0 p.1 more)) begun others → IfOk r (λ x. x ≡ single st) →
    IfOk r (λ x. Follows (stmt_in known kind s) a x f)
if_stmt known kind s at e first first' other a d f begun others st r is same h other_follows made answer =
    let g : Expr → List Stmt → List Stmt → Stmt = λ e ss more. roll-Stmt (Stmt-F.If e ss more) in
    let whole = join {A = List Stmt → Stmt} (λ g o. g o) (join g h.value h.second) others in
    let st_is : st ≡ within_limit h.within whole = made ∙ ap (λ b. join (λ (p : Expr × List Stmt) (more : List Stmt). g p.0 p.1 more) b others) h.read_is ∙ pair_and g h.within h.value h.second others in
    subst (λ k. IfOk r (λ x. Follows k a x f)) (fits_if known kind s at e first first' other is same)
    (if_follows known kind at e (stmt_in known kind first') (maybe (option_map (stmt_in known kind) other)) (option_map (stmt_in known kind) other) a h.counted h.tested d f h.within h.value h.second others whole r refl
    h.counts h.tests h.follows other_follows refl (subst (λ y. IfOk r (λ x. x ≡ single y)) st_is answer))

pub while_stmt : (known : Known) (kind : RouteKind) (s : RawStmt) (at : Place) (e : RawExpr) (body body' : RawStmt) (a d : CheckState) (begun : Option (Expr × List Stmt)) (st : Option Stmt)
    (r : Result (Option (List Stmt)) AllocError) → s ≡ raw.While at e body → body' ≡ body → Begins known kind at e (stmt_in known kind body') a begun d →
    st ≡ option_map (λ (p : Expr × List Stmt). roll-Stmt (Stmt-F.While p.0 p.1)) begun → IfOk r (λ x. x ≡ single st) → IfOk r (λ x. Follows (stmt_in known kind s) a x d)
while_stmt known kind s at e body body' a d begun st r is same h made answer =
    let g : Expr → List Stmt → Stmt = λ e ss. roll-Stmt (Stmt-F.While e ss) in
    let st_is : st ≡ within_limit h.within (join g h.value h.second) = made ∙ ap (option_map (λ (p : Expr × List Stmt). g p.0 p.1)) h.read_is ∙ pairs g h.within h.value h.second in
    subst (λ k. IfOk r (λ x. Follows k a x d)) (fits_while known kind s at e body body' is same)
    (while_follows known kind at e (stmt_in known kind body') a h.counted h.tested d h.within h.value h.second (join g h.value h.second) r h.counts h.tests h.follows refl
    (subst (λ y. IfOk r (λ x. x ≡ single y)) st_is answer))

pub switch_stmt : (known : Known) (kind : RouteKind) (s : RawStmt) (at : Place) (e : RawExpr) (cases cases' : List (Val × List RawStmt)) (default default' : List RawStmt) (a d f : CheckState)
    (begun : Option (Expr × List (Val × List Stmt))) (last : Option (List Stmt)) (st : Option Stmt) (r : Result (Option (List Stmt)) AllocError) →
    s ≡ raw.Switch at e cases default → cases' ≡ cases → default' ≡ default → Begins known kind at e (cases_in known kind cases') a begun d →
    Follows (all_in (map (stmt_in known kind) default')) d last f → st ≡ join (λ (p : Expr × List (Val × List Stmt)) (more : List Stmt). roll-Stmt (Stmt-F.Switch p.0 p.1 more)) begun last →
    IfOk r (λ x. x ≡ single st) → IfOk r (λ x. Follows (stmt_in known kind s) a x f)
switch_stmt known kind s at e cases cases' default default' a d f begun last st r is same same' h lasts made answer =
    let g : Expr → List (Val × List Stmt) → List Stmt → Stmt = λ e cs more. roll-Stmt (Stmt-F.Switch e cs more) in
    let whole = join {A = List Stmt → Stmt} (λ g o. g o) (join g h.value h.second) last in
    let st_is : st ≡ within_limit h.within whole = made ∙ ap (λ b. join (λ (p : Expr × List (Val × List Stmt)) (more : List Stmt). g p.0 p.1 more) b last) h.read_is ∙ pair_and g h.within h.value h.second last in
    subst (λ k. IfOk r (λ x. Follows k a x f)) (fits_switch known kind s at e cases cases' default default' is same same')
    (switch_follows known kind at e cases' default' a h.counted h.tested d f h.within h.value h.second last whole r h.counts h.tests h.follows lasts refl (subst (λ y. IfOk r (λ x. x ≡ single y)) st_is answer))

pub case_answers : (known : Known) (kind : RouteKind) (item : Val × List RawStmt) (body' : List RawStmt) (b d : CheckState) (v : Option (List Stmt)) (r : Result (Option (Val × List Stmt)) AllocError) → body' ≡ item.1 →
    Follows (all_in (map (stmt_in known kind) body')) b v d → IfOk r (λ x. x ≡ option_map (λ ss. (item.0, ss)) v) → IfOk r (λ x. Follows (case_in known kind item) b x d)
case_answers known kind item body' b d v r same h made =
    ok_follows (case_in known kind item) b d (option_map (λ ss. (item.0, ss)) v) r (case_follows known kind item body' b d v _ same h refl) made

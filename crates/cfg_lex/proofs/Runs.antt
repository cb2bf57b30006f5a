-- One step of a run.
use Rattle.std.proofs.Common.{◌≡◌, ℕ, ◌+◌, ◌<◌, ◌≤◌, true, false, List, length, drop, get_or, ◌==◌, refl, arith}
use Rattle.std.proofs.lemmas.List.{drop_more, drop_all}
use Rattle.std.specs.List.{prefix_len}
use Rattle.cfg_tree.specs.Variables.{begins_with}
use Rattle.cfg_lex.specs.declared.bytes.RunClass.{RunClass}
use Rattle.cfg_lex.specs.Bytes.{class_has}

pub run_stops : (class : RunClass) (text : List ℕ) (i : ℕ) → i < length text → class_has class (get_or text i 0) ≡ false → i + prefix_len (class_has class) (drop i text) ≡ i
run_stops class text i lt h = let e = drop_more text i 0 lt in rw (e, h) (omega arith)

pub run_goes : (class : RunClass) (text : List ℕ) (i : ℕ) → i < length text → class_has class (get_or text i 0) ≡ true → (i + 1) + prefix_len (class_has class) (drop (i + 1) text) ≡ i + prefix_len (class_has class) (drop i text)
run_goes class text i lt h = let e = drop_more text i 0 lt in rw (e, h) (omega arith)

pub run_all : (class : RunClass) (text : List ℕ) (i : ℕ) → length text ≤ i → i + prefix_len (class_has class) (drop i text) ≡ i
run_all class text i le = rw (drop_all i text le) (omega arith)

-- what stands at a place, and after the end
pub stands_in : (byte : ℕ) (text : List ℕ) (i : ℕ) → i < length text → begins_with byte (drop i text) ≡ (get_or text i 0 == byte)
stands_in byte text i lt = let e = drop_more text i 0 lt in rw e refl

pub stands_past : (byte : ℕ) (text : List ℕ) (i : ℕ) → length text ≤ i → begins_with byte (drop i text) ≡ false
stands_past byte text i le = rw (drop_all i text le) refl

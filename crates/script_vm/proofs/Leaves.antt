-- Leaving a block passes over its loops.
use Rattle.std.proofs.Common.{◌≡◌, ℕ, ℤ, List, [], ◌∷◌, refl, sym, ap, ◌∙◌}
use Rattle.pv_values.specs.declared.run.How.{How}
use Rattle.cfg_code.specs.declared.machine.Frame.{Frame}
use Rattle.cfg_code.specs.declared.machine.Frame.TheVariants.{Loop, Back}
use Rattle.cfg_code.specs.Machine.{Configuration, over, leave}

-- the frames that a run has don't matter
leave_from : (frames : List Frame) (n : ℤ) (h : How) (r : Configuration) (old : List Frame) → leave frames n h r ≡ leave frames n h (record r { frames = old })
leave_from [] n h r old = refl
leave_from (Loop rounds start exit ∷ frames) n h r old = leave_from frames n h r old
leave_from (Back pc calls ∷ frames) n h r old = refl

pub leave_past : (old new : Configuration) (f : Frame) (rounds start exit : ℕ) (n : ℤ) (h : How) → old ≡ record new { frames = f ∷ new.frames } → f ≡ Loop rounds start exit →
    leave old.frames n h old ≡ leave new.frames n h new
leave_past old new f rounds start exit n h e is =
    ap (λ r. leave r.frames n h r) e ∙ ap (λ f. leave (f ∷ new.frames) n h (record new { frames = f ∷ new.frames })) is
    ∙ leave_from new.frames n h (record new { frames = Loop rounds start exit ∷ new.frames }) new.frames

pub left_all : (r : Configuration) (n : ℤ) (h : How) → r.frames ≡ [] → leave r.frames n h r ≡ over h r
left_all r n h e = ap (λ frames. leave frames n h r) e ∙ ap (λ frames. over h (record r { frames = frames })) (sym e)

-- What a whole run comes to.
use Rattle.std.specs.Prelude.{◌≡◌, List, drop}
use Rattle.dialogue.specs.Talk.{Said, Need, Ended}
use Rattle.pv_values.specs.declared.run.HostAsk.{HostAsk}
use Rattle.pv_values.specs.declared.run.HostAnswer.{HostAnswer}
use Rattle.cfg_tree.specs.Meaning.{End}
use Rattle.script_vm.specs.declared.playing.Played.{Played}
use Rattle.script_vm.specs.declared.playing.Played.TheVariants as played

-- the run needs an answer to this, or has ended so with the answers that it didn't take, exactly where the script means it; or it is out of memory
abbrev pub IsPlayed : Said HostAsk HostAnswer End → List HostAnswer → Played → Type 0
IsPlayed said answers played.NoMemory = Unit {0}
IsPlayed (Need ask) answers (played.Needs asked) = asked ≡ ask
IsPlayed (Ended end rest) answers (played.Ended env how taken) = (record { env = env; how = how } ≡ end) × (drop taken answers ≡ rest)
IsPlayed (Need ask) answers (played.Ended env how taken) = ⊥
IsPlayed (Ended end rest) answers (played.Needs asked) = ⊥

use Rattle.std.proofs.Common.{rules}
use Rattle.cfg_calls.proofs.host.variable.Goals as goal
use Rattle.cfg_calls.proofs.host.variable.Goals.{in_default-via-then-name-lt2, in_default-via-else-name-lt2+then-name-lt3+in-114+in_default-1, in_default-via-else-name-lt2+then-name-lt3+in-100+in_default-1, in_default-via-else-name-lt2+then-name-lt3+in-102+in_default-1, in_default-via-else-name-lt2+then-name-lt3+in-116+in_default-1, in_default-via-else-name-lt2+then-name-lt3+in-99+in_default-1, in_default-via-else-name-lt2+then-name-lt3+in-115+in_default-1, in_default-via-else-name-lt2+then-name-lt3+in-117+in_default-1, in_default-via-else-name-lt2+then-name-lt3+in_default-1, in_default-via-else-name-lt2+else-name-lt3+then-name-lt4, in_default-via-else-name-lt2+else-name-lt3+else-name-lt4+then-name-lt5+in-110+in-117+in-108+in_default-1, in_default-via-else-name-lt2+else-name-lt3+else-name-lt4+then-name-lt5+in-110+in-117+in_default-1, in_default-via-else-name-lt2+else-name-lt3+else-name-lt4+then-name-lt5+in-110+in_default-1, in_default-via-else-name-lt2+else-name-lt3+else-name-lt4+then-name-lt5+in_default-1, in_default-via-else-name-lt2+else-name-lt3+else-name-lt4+else-name-lt5}

pub returns-in_default : goal.returns-in_default
returns-in_default c = elim c.in_default.branch [
  | in_default-via-then-name-lt2 w ↦ search rules
  | in_default-via-else-name-lt2+then-name-lt3+in-114+in_default-1 w ↦ search rules
  | in_default-via-else-name-lt2+then-name-lt3+in-100+in_default-1 w ↦ search rules
  | in_default-via-else-name-lt2+then-name-lt3+in-102+in_default-1 w ↦ search rules
  | in_default-via-else-name-lt2+then-name-lt3+in-116+in_default-1 w ↦ search rules
  | in_default-via-else-name-lt2+then-name-lt3+in-99+in_default-1 w ↦ search rules
  | in_default-via-else-name-lt2+then-name-lt3+in-115+in_default-1 w ↦ search rules
  | in_default-via-else-name-lt2+then-name-lt3+in-117+in_default-1 w ↦ search rules
  | in_default-via-else-name-lt2+then-name-lt3+in_default-1 w ↦ search rules
  | in_default-via-else-name-lt2+else-name-lt3+then-name-lt4 w ↦ search rules
  | in_default-via-else-name-lt2+else-name-lt3+else-name-lt4+then-name-lt5+in-110+in-117+in-108+in_default-1 w ↦ search rules
  | in_default-via-else-name-lt2+else-name-lt3+else-name-lt4+then-name-lt5+in-110+in-117+in_default-1 w ↦ search rules
  | in_default-via-else-name-lt2+else-name-lt3+else-name-lt4+then-name-lt5+in-110+in_default-1 w ↦ search rules
  | in_default-via-else-name-lt2+else-name-lt3+else-name-lt4+then-name-lt5+in_default-1 w ↦ search rules
  | in_default-via-else-name-lt2+else-name-lt3+else-name-lt4+else-name-lt5 w ↦ search rules
]

-- The numbers of the kinds of refusal, by which they are printed and, at one byte, come one before another.
use Rattle.std.specs.Prelude.{ℕ}
use Rattle.cfg_tree.specs.declared.refusal_kind.RefusalKind.{RefusalKind}
use Rattle.cfg_tree.specs.declared.refusal_kind.RefusalKind.TheVariants.{BadByte, Unclosed, Syntax, UnknownRoute, RouteTwice, UnknownFunction, WrongBlock, WrongArguments, UnknownVariable, NotWritable, BadParameter, BadPattern, TooLarge, NoRequestRoute, UnknownModule}

abbrev pub refusal_number : RefusalKind → ℕ
refusal_number BadByte = 1
refusal_number Unclosed = 2
refusal_number Syntax = 3
refusal_number UnknownRoute = 4
refusal_number RouteTwice = 5
refusal_number UnknownFunction = 6
refusal_number WrongBlock = 7
refusal_number WrongArguments = 8
refusal_number UnknownVariable = 9
refusal_number NotWritable = 10
refusal_number BadParameter = 11
refusal_number BadPattern = 12
refusal_number TooLarge = 13
refusal_number NoRequestRoute = 14
refusal_number UnknownModule = 15

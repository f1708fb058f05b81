-- The protocol's error codes, as `pulse/def.h` numbers them.
use Rattle.std.specs.Prelude.{ℕ}
use Rattle.px_types.specs.declared.error_code.ErrorCode.{ErrorCode}
use Rattle.px_types.specs.declared.error_code.ErrorCode.TheVariants.{Access, Command, Invalid, Exist, NoEntity, Protocol, BadState, Version, TooLarge, NotSupported, NotImplemented, Busy}

abbrev pub code_of : ErrorCode → ℕ
code_of Access = 1
code_of Command = 2
code_of Invalid = 3
code_of Exist = 4
code_of NoEntity = 5
code_of Protocol = 7
code_of BadState = 15
code_of Version = 17
code_of TooLarge = 18
code_of NotSupported = 19
code_of NotImplemented = 23
code_of Busy = 26

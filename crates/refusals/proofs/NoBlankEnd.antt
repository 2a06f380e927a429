-- No text of a refusal ends with a blank.
-- Assumes nothing.
use mathlib.Core.Path.{refl}
use Rattle.model.specs.declared.Refusal.TheVariants.{Short, Invalid, Unready, Busy, Malformed, Unawaited, ChipError, LowestTimeout, HighestTag, NoLevel, CalibrationError}
use Rattle.refusals.specs.Claims.{NoBlankEnd}
use Rattle.text.proofs.Ending.{number_ends, byte_ends}

pub no_blank_end : NoBlankEnd
no_blank_end Short = refl
no_blank_end Invalid = refl
no_blank_end Unready = refl
no_blank_end Busy = refl
no_blank_end Malformed = refl
no_blank_end Unawaited = refl
no_blank_end (ChipError code) = byte_ends code
no_blank_end (LowestTimeout commands) = number_ends commands
no_blank_end (HighestTag commands) = number_ends commands
no_blank_end (NoLevel commands) = number_ends commands
no_blank_end (CalibrationError code commands) = number_ends commands

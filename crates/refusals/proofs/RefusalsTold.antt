-- Refusals are told apart by their texts: a text is read back as its refusal.
-- Assumes nothing.
use Prim.Native.Nat.{ℕ, ◌<◌}
use mathlib.Core.Path.{◌≡◌, refl, sym, ap, ap₂, ◌∙◌}
use mathlib.Core.List.{List, [], ◌∷◌, ◌++◌}
use lib.Dec.{eqb, eqb→eq}
use lib.ListN.{get_or, take, drop}
use Rattle.std.specs.Prelude.{unwrap_or}
use Rattle.model.specs.declared.Refusal.{Refusal}
use Rattle.model.specs.declared.Refusal.TheVariants.{Short, Invalid, Unready, Busy, Malformed, Unawaited, ChipError, LowestTimeout, HighestTag, NoLevel, CalibrationError}
use Rattle.words.specs.Words.{Bytes, concat}
use Rattle.model.specs.Refusals.{values_of}
use Rattle.words.proofs.Words.{each}
use Rattle.lines.specs.Lines.{word_length}
use Rattle.text.specs.Writing.{hex, decimal}
use Rattle.digits.specs.Hex.{byte_of}
use Rattle.digits.specs.Decimal.{value_of}
use Rattle.refusals.specs.Refusals.{refusal_text}
use Rattle.refusals.specs.Claims.{RefusalsTold}

-- a byte from a blank and its two digits on, 256 where they are none
abbrev code_at : List ℕ → ℕ
code_at xs = unwrap_or (byte_of (get_or xs 1 0) (get_or xs 2 0)) 256

-- what is written of a byte is the byte: each by one computed test
code_back : (code : ℕ) → code < 256 → code_at (hex code) ≡ code
code_back code h = eqb→eq (code_at (hex code)) code (each (λ (k : ℕ). eqb (code_at (hex k)) k) 256 tt code h)

abbrev spelled : ℕ → ℕ
spelled n = value_of (decimal n ++ [])

count_back : (n : ℕ) → n < 256 → spelled n ≡ n
count_back n h = eqb→eq (spelled n) n (each (λ (k : ℕ). eqb (spelled k) k) 256 tt n h)

-- the refusals by their numbers, with values read behind the number; 11 is none of a session's
abbrev refusals : List ℕ → List Refusal
refusals values =
    let commands = value_of (drop 10 values) in
    Short
    ∷ Invalid
    ∷ Unready
    ∷ Busy
    ∷ Malformed
    ∷ Unawaited
    ∷ ChipError (code_at values)
    ∷ LowestTimeout commands
    ∷ HighestTag commands
    ∷ NoLevel commands
    ∷ Short
    ∷ CalibrationError (code_at values) (value_of (drop 13 values))
    ∷ []

-- a text from its number on
abbrev read_off : List ℕ → Refusal
read_off xs = let n = word_length xs in get_or (Short ∷ refusals (drop n xs)) (value_of (take n xs)) Short

-- behind "refused "
abbrev read : List ℕ → Refusal
read text = read_off (drop 8 text)

back : (refusal : Refusal) → Bytes (values_of refusal) → read (concat (refusal_text refusal)) ≡ refusal
back Short h = refl
back Invalid h = refl
back Unready h = refl
back Busy h = refl
back Malformed h = refl
back Unawaited h = refl
back (ChipError code) (h, _) = ap ChipError (code_back code h)
back (LowestTimeout commands) (h, _) = ap LowestTimeout (count_back commands h)
back (HighestTag commands) (h, _) = ap HighestTag (count_back commands h)
back (NoLevel commands) (h, _) = ap NoLevel (count_back commands h)
back (CalibrationError code commands) (h, (k, _)) = ap₂ CalibrationError (code_back code h) (count_back commands k)

pub refusals_told : RefusalsTold
refusals_told refusal other h k e = sym (back refusal h) ∙ ap read e ∙ back other k

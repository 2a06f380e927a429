-- Frames that the maker prints (000, section 5; 002, section 2), what the reader refuses beside them, and the numbers of the refusals.
-- Assumes nothing.
use Rattle.std.specs.Prelude.{ℕ, ◌≡◌, Bool, true, false, List, [], ◌∷◌, map, replicate, Err, Ok, Result}
use Rattle.model.specs.declared.Interface.TheVariants.{Spi, Uart}
use Rattle.model.specs.declared.Refusal.{Refusal}
use Rattle.model.specs.declared.Refusal.TheVariants.{Short, Invalid, Unready, Busy, Malformed, Unawaited, ChipError, LowestTimeout, HighestTag, NoLevel, CalibrationError}
use Rattle.model.specs.declared.Wake.TheVariants.{Tag}
use Rattle.model.specs.declared.Answer.{Answer}
use Rattle.model.specs.declared.Settings.{Settings}
use Rattle.model.specs.declared.Wait.TheVariants.{Endless, After}
use Rattle.words.specs.Contract.{Ran}
use Rattle.model.specs.Refusals.{number_of, values_of, silent, ended, report_of, none, number, number_in, values_in}
use Rattle.words.specs.Words.{those}
use Rattle.model.specs.Frames.{Command, idn, protocol_select, send_recv, idle, echo, frame, prescaler, send, reset, poll, read, bytes, write, received, read_command}
use Rattle.model.specs.Checks.{is_mild}
use Rattle.model.specs.Times.{times_of, wait_of}
use Rattle.cases.specs.Awaiting.{sleeping}
use Rattle.cases.specs.Starred.{calibrating, longest, ms}
use Rattle.model.specs.declared.Frame.{Frame}

-- ---- frames

-- woken by a low pulse on IRQ_IN; and by nothing at all
abbrev pub hibernate : Settings
hibernate = sleeping 0x08

abbrev pub sourceless : Settings
sourceless = sleeping 0xC0

abbrev pub commands : List Command
commands =
    idn ∷ protocol_select 0x00 (0x00 ∷ []) ∷ protocol_select 0x01 (0x05 ∷ []) ∷ protocol_select 0x04 (0x51 ∷ []) ∷
    send_recv (0x26 ∷ 0x01 ∷ 0x00 ∷ []) ∷ send_recv [] ∷ idle hibernate ∷ echo ∷ []

abbrev pub Frames : Type 0
Frames =
    map frame commands ≡
    (0x01 ∷ 0x00 ∷ []) ∷
    (0x02 ∷ 0x02 ∷ 0x00 ∷ 0x00 ∷ []) ∷
    (0x02 ∷ 0x02 ∷ 0x01 ∷ 0x05 ∷ []) ∷
    (0x02 ∷ 0x02 ∷ 0x04 ∷ 0x51 ∷ []) ∷
    (0x04 ∷ 0x03 ∷ 0x26 ∷ 0x01 ∷ 0x00 ∷ []) ∷
    (0x04 ∷ 0x00 ∷ []) ∷
    (0x07 ∷ 0x0E ∷ 0x08 ∷ 0x04 ∷ 0x00 ∷ 0x04 ∷ 0x00 ∷ 0x18 ∷ 0x00 ∷ 0x00 ∷ 0x00 ∷ 0x00 ∷ 0x00 ∷ 0x00 ∷ 0x00 ∷ 0x00 ∷ []) ∷
    (0x55 ∷ []) ∷
    []

-- ---- the reader

abbrev pub is_taken : Result Frame Refusal → Bool
is_taken (Ok f) = true
is_taken (Err k) = false

-- the data of the timer's Idle command of 002, with a WU source, DacDataL and DacDataH
abbrev pub timer : ℕ → ℕ → ℕ → List ℕ
timer source low high = source ∷ 0x21 ∷ 0x00 ∷ 0x38 ∷ 0x00 ∷ 0x18 ∷ 0x00 ∷ 0x60 ∷ 0x60 ∷ 0x00 ∷ low ∷ high ∷ 0x00 ∷ 0x08 ∷ []

abbrev pub selecting : ℕ → ℕ → List ℕ
selecting n protocol = 0x02 ∷ n ∷ protocol ∷ []

abbrev pub Read : Type 0
Read =
    map (λ (xs : List ℕ). is_taken (read_command xs)) (
    -- each source by itself, and the prescaler's bits
    (0x07 ∷ 0x0E ∷ timer 0x01 0 0) ∷ (0x07 ∷ 0x0E ∷ timer 0x02 0 0) ∷ (0x07 ∷ 0x0E ∷ timer 0x08 0 0) ∷ (0x07 ∷ 0x0E ∷ timer 0x10 0 0) ∷
    (0x07 ∷ 0x0E ∷ timer 0xC1 0 0) ∷ (0x07 ∷ 0x0E ∷ timer 0xDB 0 0) ∷
    -- DacDataL at most DacDataH, or no tag among the sources
    (0x07 ∷ 0x0E ∷ timer 0x02 0x64 0x64) ∷ (0x07 ∷ 0x0E ∷ timer 0x09 0x65 0x64) ∷
    (0x02 ∷ 0x02 ∷ 0x04 ∷ 0x00 ∷ []) ∷ (0x02 ∷ 0x09 ∷ 0x00 ∷ replicate 8 0xFF) ∷ (0x04 ∷ 0xFF ∷ replicate 255 0x55) ∷ [])
    ≡ replicate 11 true

abbrev pub Refused : Type 0
Refused =
    map read_command (
    [] ∷ (0x01 ∷ []) ∷ (0x00 ∷ []) ∷ (0x01 ∷ 0x01 ∷ 0x00 ∷ []) ∷ (0x01 ∷ 0x00 ∷ 0x00 ∷ []) ∷ (0x55 ∷ 0x00 ∷ []) ∷ (0x55 ∷ 0x55 ∷ []) ∷
    (0x03 ∷ 0x00 ∷ []) ∷ (0x05 ∷ 0x00 ∷ []) ∷ (0x06 ∷ 0x00 ∷ []) ∷ (0x0A ∷ 0x01 ∷ 0x0D ∷ []) ∷
    -- no parameter, nine, protocol 5
    (0x02 ∷ 0x00 ∷ []) ∷ (0x02 ∷ 0x01 ∷ 0x01 ∷ []) ∷ (0x02 ∷ 0x0A ∷ 0x01 ∷ replicate 9 0x00) ∷ (0x02 ∷ 0x02 ∷ 0x05 ∷ 0x00 ∷ []) ∷
    -- n is not the rest
    (0x04 ∷ 0x03 ∷ 0x26 ∷ 0x01 ∷ []) ∷ (0x04 ∷ 0x02 ∷ 0x26 ∷ 0x01 ∷ 0x00 ∷ []) ∷
    -- bits 2 and 5, no source, DacDataL above DacDataH
    (0x07 ∷ 0x0E ∷ timer 0x05 0 0) ∷ (0x07 ∷ 0x0E ∷ timer 0x21 0 0) ∷ (0x07 ∷ 0x0E ∷ timer 0xC0 0 0) ∷ (0x07 ∷ 0x0E ∷ timer 0x02 0x65 0x64) ∷
    -- 002 prints this one a byte short
    (0x07 ∷ 0x0E ∷ 0x08 ∷ 0x04 ∷ 0x00 ∷ 0x04 ∷ 0x00 ∷ 0x18 ∷ 0x00 ∷ 0x00 ∷ 0x00 ∷ 0x00 ∷ 0x00 ∷ 0x00 ∷ 0x00 ∷ []) ∷
    (0x07 ∷ 0x0D ∷ replicate 13 0x01) ∷ (0x07 ∷ 0x0F ∷ replicate 15 0x01) ∷ (0x04 ∷ 256 ∷ replicate 256 0x00) ∷ [])
    ≡ replicate 25 (Err Invalid)

-- ---- transfers

abbrev pub Transfers : Type 0
Transfers =
    map (bytes Spi) (send echo ∷ reset ∷ poll ∷ read 3 ∷ []) ≡
    (0x00 ∷ 0x55 ∷ []) ∷ (0x01 ∷ []) ∷ (0x03 ∷ 0x03 ∷ []) ∷ (0x02 ∷ 0x00 ∷ 0x00 ∷ 0x00 ∷ []) ∷ []

-- an answer, and the output after it
abbrev pub ran : Result ℕ Refusal → List ℕ → Ran (Result ℕ Refusal)
ran a xs = record { answer = a; bytes = xs }

pub record Outputs : Type 0 where
  pub past_the_bytes : write Uart (send idn) (9 ∷ 9 ∷ 9 ∷ []) ≡ ran (Ok 2) (0x01 ∷ 0x00 ∷ 9 ∷ [])
  pub just_enough : write Spi (send idn) (9 ∷ 9 ∷ 9 ∷ []) ≡ ran (Ok 3) (0x00 ∷ 0x01 ∷ 0x00 ∷ [])
  pub spi_byte_counts : write Spi (send idn) (9 ∷ 9 ∷ []) ≡ ran (Err Short) (9 ∷ 9 ∷ [])
  pub rule_before_room : write Uart (send (protocol_select 5 (0 ∷ []))) [] ≡ ran (Err Invalid) []
  pub nine_parameters : write Uart (send (protocol_select 1 (replicate 9 0))) (9 ∷ []) ≡ ran (Err Invalid) (9 ∷ [])
  pub too_much : write Uart (send (send_recv (replicate 256 0))) [] ≡ ran (Err Invalid) []
  pub one_to_read : write Spi (read 1) (9 ∷ 9 ∷ 9 ∷ []) ≡ ran (Ok 2) (0x02 ∷ 0x00 ∷ 9 ∷ [])
  pub none_to_read : write Spi (read 0) [] ≡ ran (Err Invalid) []
  pub too_much_to_read : write Spi (read 531) [] ≡ ran (Err Invalid) []
  pub most_to_read : write Spi (read 530) [] ≡ ran (Err Short) []
  pub uart_has_no_reset : write Uart reset (9 ∷ []) ≡ ran (Err Invalid) (9 ∷ [])
  pub uart_has_no_poll : write Uart poll (9 ∷ []) ≡ ran (Err Invalid) (9 ∷ [])
  pub uart_has_no_read : write Uart (read 1) (9 ∷ []) ≡ ran (Err Invalid) (9 ∷ [])

abbrev pub Received : Type 0
Received = map received ((0x00 ∷ 0x08 ∷ []) ∷ (0x00 ∷ []) ∷ [] ∷ []) ≡ (0x08 ∷ []) ∷ [] ∷ [] ∷ []

-- ---- waiting

-- bits 7:6, of a byte and of any number
abbrev pub Prescalers : Type 0
Prescalers = map prescaler (0x3F ∷ 0x40 ∷ 0x7F ∷ 0x80 ∷ 0xBF ∷ 0xC0 ∷ 0xFF ∷ 0x140 ∷ []) ≡ 0 ∷ 1 ∷ 1 ∷ 2 ∷ 2 ∷ 3 ∷ 3 ∷ 1 ∷ []

pub record Waits : Type 0 where
  pub at_a_level : wait_of (calibrating 0xFC) ≡ Ok (After (ms 528))
  pub at_most : wait_of longest ≡ Ok (After (ms 4194304))
  pub without_end : wait_of hibernate ≡ Ok Endless
  pub no_source : wait_of sourceless ≡ Err Invalid
  pub no_times : times_of sourceless ≡ Err Invalid

-- ---- the numbers of the refusals

-- all that a session gives
abbrev pub refusals : List Refusal
refusals =
    Short ∷ Invalid ∷ Unready ∷ Busy ∷ Malformed ∷ Unawaited ∷ ChipError 0x87 ∷ LowestTimeout 1 ∷ HighestTag 2 ∷ NoLevel 8 ∷ CalibrationError 0x82 3 ∷ []

abbrev pub Numbers : Type 0
Numbers = map number_of refusals ≡ 1 ∷ 2 ∷ 3 ∷ 4 ∷ 5 ∷ 6 ∷ 7 ∷ 8 ∷ 9 ∷ 10 ∷ 12 ∷ []

abbrev pub Values : Type 0
Values = map values_of refusals ≡ [] ∷ [] ∷ [] ∷ [] ∷ [] ∷ [] ∷ (0x87 ∷ []) ∷ (1 ∷ []) ∷ (2 ∷ []) ∷ (8 ∷ []) ∷ (0x82 ∷ 3 ∷ []) ∷ []

-- those that report the commands of a calibration
abbrev pub Reported : Type 0
Reported =
    map report_of refusals ≡ silent ∷ silent ∷ silent ∷ silent ∷ silent ∷ silent ∷ silent ∷ ended 1 ∷ ended 2 ∷ ended 8 ∷ ended 3 ∷ []

-- those that change nothing, write nothing and consume nothing
abbrev pub Mild : Type 0
Mild = those is_mild 13 [] ≡ 1 ∷ 2 ∷ 3 ∷ 4 ∷ 6 ∷ 11 ∷ []

-- number and values of any answer
abbrev pub answers : List Answer
answers =
    Answer.Done ∷ Answer.Sent 16 ∷ Answer.More ∷ Answer.Good ∷ Answer.Woken Tag ∷ Answer.Reference 0x5C 8 ∷ Answer.Refused (CalibrationError 0x8D 3) ∷ []

pub record Told : Type 0 where
  pub numbers : map number_in answers ≡ none ∷ none ∷ none ∷ none ∷ none ∷ none ∷ number 12 ∷ []
  pub values : map values_in answers ≡ [] ∷ (16 ∷ []) ∷ [] ∷ [] ∷ [] ∷ (0x5C ∷ 8 ∷ []) ∷ (0x8D ∷ 3 ∷ []) ∷ []

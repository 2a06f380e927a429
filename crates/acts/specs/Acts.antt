-- The call of the session that a line makes, on as much of a buffer as is lent.
-- Assumes nothing.
use Rattle.std.specs.Prelude.{ℕ, ◌%◌, List, eqb, replicate}
use Rattle.model.specs.declared.Interface.{Interface}
use Rattle.model.specs.declared.Interface.TheVariants.{Spi, Uart}
use Rattle.model.specs.declared.Plan.{Plan}
use Rattle.model.specs.declared.Session.{Session}
use Rattle.model.specs.declared.Outcome.{Outcome}
use Rattle.words.specs.Words.{pick}
use Rattle.words.specs.Contract.{Ran}
use Rattle.model.specs.Frames.{command, send_recv}
use Rattle.model.specs.Session.{power_on, pulse, request, reset, poll, read, calibrate, next, step}
use Rattle.stakes.specs.Stakes as Stakes
use Rattle.stakes.specs.declared.Slots.TheVariants.{One, Sixteen}
use Rattle.lines.specs.Lines.{byte_at}
use Rattle.calls.specs.Calls.{data_for}
use Rattle.calls.specs.declared.Act.{Act}
use Rattle.calls.specs.declared.Act.TheVariants.{PowerOn, Pulse, Sends, Inventory, Reset, Poll, Read, Calibrate, Next}

-- spi is 0
abbrev pub interface_of : ℕ → Interface
interface_of number = pick (eqb number 0) Spi Uart

-- the settings of a calibration: the prescaler, then pairs and times in wire order
abbrev pub plan_of : ℕ → List ℕ → Plan
plan_of prescaler given =
    record {
      prescaler = prescaler % 256;
      enter = record { first = byte_at given 0; second = byte_at given 1 };
      wake = record { first = byte_at given 2; second = byte_at given 3 };
      leave = record { first = byte_at given 4; second = byte_at given 5 };
      period = byte_at given 6;
      osc = byte_at given 7;
      dac = byte_at given 8;
      swing = byte_at given 9;
    }

-- no request: one byte more than a SendRecv takes
abbrev pub no_request : List ℕ
no_request = replicate 256 0x00

-- the data of an inventory's SendRecv, by its number of slots
abbrev pub request_for : ℕ → List ℕ
request_for n = pick (eqb n 1) (Stakes.request One) (pick (eqb n 16) (Stakes.request Sixteen) no_request)

-- a call that is lent nothing leaves the output as it was
abbrev pub keeping : List ℕ → Ran Outcome → Ran Outcome
keeping out ran = record { answer = ran.answer; bytes = out }

-- what an act does, by the number and the bytes that its line gives, on the output
abbrev pub acted : Session → Act → ℕ → List ℕ → List ℕ → Ran Outcome
acted s PowerOn number given out = keeping out (step s (power_on (interface_of number)))
acted s Pulse number given out = keeping out (step s pulse)
acted s (Sends kind) number given out = step s (request (command kind (data_for kind given)) out)
acted s Inventory number given out = step s (request (send_recv (request_for number)) out)
acted s Reset number given out = step s (reset out)
acted s Poll number given out = step s (poll out)
acted s Read number given out = step s (read number out)
acted s Calibrate number given out = step s (calibrate (plan_of number given) out)
acted s Next number given out = step s (next out)

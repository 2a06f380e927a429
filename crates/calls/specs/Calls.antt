-- The calls of a script: the table of their names, and what each takes behind its name.
-- Assumes nothing.
use Rattle.std.specs.Prelude.{ℕ, List, [], ◌∷◌, get_or, Option, Some, None}
use Prim.Native.String.{String}
use Rattle.model.specs.declared.Kind.{Kind}
use Rattle.model.specs.declared.Kind.TheVariants.{Idn, ProtocolSelect, SendRecv, Idle, RdReg, WrReg, Echo}
use Rattle.model.specs.declared.Message.{Message}
use Rattle.model.specs.declared.Message.TheVariants.{GetFirmwareVersion, GoToTagDetectingState, IsWakeUp, CalibrateTagDetecting}
use Rattle.words.specs.Words.{pick}
use Rattle.model.specs.Registers.{read_data}
use Rattle.model.specs.Frames.{is}
use Rattle.lines.specs.Lines.{same, byte_at, fore}
use Rattle.text.specs.Writing.{word}
use Rattle.calls.specs.declared.Act.TheVariants.{PowerOn, Pulse, Sends, Inventory, Reset, Poll, Read, Calibrate, Next}
use Rattle.calls.specs.declared.Question.TheVariants.{Times, Wait, Band, Command, Flags, Received, Stake}
use Rattle.calls.specs.declared.Board.TheVariants.{Asks, Reads, Answers, Fails, Replies}
use Rattle.calls.specs.declared.Buffer.TheVariants.{Out, Room}
use Rattle.calls.specs.declared.Fault.TheVariants.{NoProtocol, NoCode}
use Rattle.calls.specs.declared.Shape.{Shape}
use Rattle.calls.specs.declared.Shape.TheVariants.{Nothing, Interface, Numbered, Exactly, Led, Any}
use Rattle.calls.specs.declared.Verb.{Verb}
use Rattle.calls.specs.declared.Verb.TheVariants.{Acts, Feeds, Tells, Speaks, Sets, Helps}

-- ---- what a call takes

-- the longest that out and room can be
abbrev pub longest : ℕ
longest = 600

-- the greatest number of nine digits
abbrev pub greatest : ℕ
greatest = 999999999

-- ---- the table

-- a name, its call, and what it takes
pub record Row : Type 0 where
  pub name : List ℕ
  pub call : Verb
  pub shape : Shape

abbrev pub row : String → Verb → Shape → Row
row name call shape = record { name = word name; call = call; shape = shape }

abbrev pub rows : List Row
rows =
    row "power-on" (Acts PowerOn) Interface
    ∷ row "pulse" (Acts Pulse) Nothing
    ∷ row "idn" (Acts (Sends Idn)) Nothing
    ∷ row "select" (Acts (Sends ProtocolSelect)) (Led NoProtocol)
    ∷ row "send" (Acts (Sends SendRecv)) Any
    ∷ row "idle" (Acts (Sends Idle)) (Exactly 14)
    ∷ row "echo" (Acts (Sends Echo)) Nothing
    ∷ row "reset" (Acts Reset) Nothing
    ∷ row "poll" (Acts Poll) Nothing
    ∷ row "read" (Acts Read) (Numbered greatest 0)
    ∷ row "calibrate" (Acts Calibrate) (Numbered 255 10)
    ∷ row "next" (Acts Next) Nothing
    ∷ row "feed" Feeds Any
    ∷ row "times" (Tells Times) (Exactly 14)
    ∷ row "wait" (Tells Wait) (Exactly 14)
    ∷ row "band" (Tells Band) (Exactly 1)
    ∷ row "command" (Tells Command) Any
    ∷ row "flags" (Tells Flags) (Exactly 1)
    ∷ row "received" (Tells Received) Any
    ∷ row "usb-idn" (Speaks (Asks Message.Idn)) Nothing
    ∷ row "usb-firmware" (Speaks (Asks GetFirmwareVersion)) Nothing
    ∷ row "usb-inventory" (Speaks (Asks Message.Inventory)) (Exactly 1)
    ∷ row "usb-detect" (Speaks (Asks GoToTagDetectingState)) (Exactly 2)
    ∷ row "usb-awake" (Speaks (Asks IsWakeUp)) Nothing
    ∷ row "usb-calibrate" (Speaks (Asks CalibrateTagDetecting)) Nothing
    ∷ row "usb" (Speaks Reads) Any
    ∷ row "usb-answer" (Speaks Answers) (Led NoCode)
    ∷ row "usb-error" (Speaks Fails) (Exactly 1)
    ∷ row "usb-reply" (Speaks Replies) (Led NoCode)
    ∷ row "rdreg" (Acts (Sends RdReg)) (Exactly 1)
    ∷ row "wrreg" (Acts (Sends WrReg)) Any
    ∷ row "inventory" (Acts Inventory) (Numbered greatest 0)
    ∷ row "stake" (Tells Stake) Any
    ∷ row "out" (Sets Out) (Numbered longest 0)
    ∷ row "room" (Sets Room) (Numbered longest 0)
    ∷ row "help" Helps Nothing
    ∷ []

-- the row of a number, help without a name behind the last
abbrev pub row_of : ℕ → Row
row_of k = get_or rows k (row "" Helps Nothing)

abbrev pub name_of : ℕ → List ℕ
name_of k = (row_of k).name

abbrev pub call_of : ℕ → Verb
call_of k = (row_of k).call

abbrev pub shape_of : ℕ → Shape
shape_of k = (row_of k).shape

-- the number of the call that sends a command, and its name
abbrev pub sent_by : Kind → ℕ
sent_by Idn = 2
sent_by ProtocolSelect = 3
sent_by SendRecv = 4
sent_by Idle = 5
sent_by RdReg = 29
sent_by WrReg = 30
sent_by Echo = 6

abbrev pub kind_name : Kind → List ℕ
kind_name kind = name_of (sent_by kind)

-- the data of the command that a call sends, by the bytes that it is given: rdreg is given the register alone
abbrev pub data_for : Kind → List ℕ → List ℕ
data_for kind given = pick (is kind RdReg) (read_data (byte_at given 0)) given

-- and the bytes that it is given, by those data
abbrev pub given_for : Kind → List ℕ → List ℕ
given_for kind payload = pick (is kind RdReg) (fore payload 1) payload

-- the number of the call that writes a command message, and its name
abbrev pub asked_by : Message → ℕ
asked_by Message.Idn = 19
asked_by GetFirmwareVersion = 20
asked_by Message.Inventory = 21
asked_by GoToTagDetectingState = 22
asked_by IsWakeUp = 23
asked_by CalibrateTagDetecting = 24

abbrev pub message_name : Message → List ℕ
message_name message = name_of (asked_by message)

-- the call that a word names, and what it takes
abbrev pub found : List ℕ → List Row → Option (Verb × Shape)
found w [] = None
found w (r ∷ rs) = pick (same w r.name) (Some (r.call, r.shape)) (found w rs)

-- The statements of the promises, as named types. proofs/ proves each.
-- Assumes nothing.
use Rattle.std.specs.Prelude.{ℕ, suc, ◌+◌, ◌-◌, ◌*◌, ◌%◌, ◌≤◌, ◌<◌, ◌≡◌, true, false, ◌↔◌, ◌⊎◌, List, [], ◌∷◌, ◌++◌, length, drop, Err, Ok}
use Rattle.model.specs.declared.Interface.{Interface}
use Rattle.model.specs.declared.Refusal.{Refusal}
use Rattle.model.specs.declared.Refusal.TheVariants.{Invalid}
use Rattle.model.specs.declared.Settings.{Settings}
use Rattle.model.specs.declared.Kind.TheVariants.{SendRecv, RdReg, WrReg}
use Rattle.model.specs.declared.Frame.{Frame}
use Rattle.model.specs.declared.Awaited.{Awaited}
use Rattle.model.specs.declared.Progress.{Progress}
use Rattle.model.specs.declared.Verdict.{Verdict}
use Rattle.model.specs.declared.End.{End}
use Rattle.model.specs.declared.End.TheVariants.{Good, Woken, Error, Malformed}
use Rattle.model.specs.declared.Verdict.TheVariants.{More, Ended, NoRoom}
use Rattle.model.specs.declared.Place.{Place}
use Rattle.model.specs.declared.Place.TheVariants.{Nowhere, Piece, Room}
use Rattle.model.specs.declared.Fed.{Fed}
use Rattle.model.specs.declared.Plan.{Plan}
use Rattle.model.specs.declared.Search.{Search}
use Rattle.model.specs.declared.Wake.{Wake}
use Rattle.model.specs.declared.Session.{Session}
use Rattle.model.specs.declared.Answer.{Answer}
use Rattle.words.specs.Words.{bit, among, Pastes, Bytes, concat}
use Rattle.words.specs.Contract.{Ran, OneAnswer, OneOutcome}
use Rattle.model.specs.Registers.{modulations, gains}
use Rattle.model.specs.Frames.{Command, command, idle_data, frame, allowed, wrapped, greatest_read, Transfer, write, read_command, command_of, Writes, Reads, ReadsFirst, Receives, Flagged, Gathers, Allows, Prescales}
use Rattle.model.specs.Replies.{least_room, form_of, idled, Reply, flaw_at, Meaning, meaning, has_data, reply, begun, feed, data_of, Feeds, Chooses}
use Rattle.model.specs.Refusals.{flaw_number, number, band_number}
use Rattle.model.specs.Calibration.{band, Sets, Hears, Guards}
use Rattle.model.specs.Checks.{Passes, First, mild}
use Rattle.model.specs.Session.{Call, request, lent, awaiting, outcome, refuse, checks, step, table, Meets, Unpowered}
use Rattle.model.specs.Times.{ticks, times, t_to, exactly, Timed, Waits}

-- ---- demand 1: refusals

-- refusal k is given if and only if its condition holds and none before it in the order of checks does, for every call and every session
abbrev pub Exactly : Type 0
Exactly = (s : Session) (c : Call) (k : Refusal) → ((step s c).answer.answer ≡ Answer.Refused k) ↔ First k (table s c)

-- refusals 1, 2, 3, 4, 6 and 11 change nothing, write nothing and consume nothing
abbrev pub Untouched : Type 0
Untouched =
    (s : Session) (c : Call) (k : Refusal) → (step s c).answer.answer ≡ Answer.Refused k → mild k ≡ true →
    step s c ≡ refuse s k (lent c)

-- the guard band is refused exactly below 08, above F4 and where the reference is not a multiple of 4
abbrev pub BandRefused : Type 0
BandRefused = (r : ℕ) → (band_number (band r) ≡ number 11) ↔ ((r < 0x08) ⊎ ((0xF4 < r) ⊎ (r % 4 ≡ 0 → ⊥)))

-- a request of which no check holds (valid fields and room enough, nothing awaited and no calibration running, in Ready or Selected, SendRecv
-- in Selected and with n = 0 only for protocol 1) sends the frame of its command and waits for its reply
abbrev pub Sends : Type 0
Sends =
    (s : Session) (c : Command) (out : List ℕ) →
    Passes (checks s (request c out)) →
    step s (request c out) ≡
    record {
      answer = outcome (awaiting s c s.calibration) (Answer.Sent (length (wrapped s.interface (frame c))));
      bytes = wrapped s.interface (frame c) ++ drop (length (wrapped s.interface (frame c))) out;
    }

-- ---- demand 2: frames

-- the reader takes back every frame of every allowed command, as that command
abbrev pub TakesBack : Type 0
TakesBack = (c : Command) → allowed c ≡ true → (f : Frame) × (read_command (frame c) ≡ Ok f) × (command_of (frame c) f ≡ c)

-- whatever it takes is the frame of the allowed command that it names
abbrev pub OnlyFrames : Type 0
OnlyFrames = (xs : List ℕ) (f : Frame) → read_command xs ≡ Ok f → (allowed (command_of xs f) ≡ true) × (frame (command_of xs f) ≡ xs)

-- all else is refused with 2
abbrev pub RefusesElse : Type 0
RefusesElse = (xs : List ℕ) → ((c : Command) → allowed c ≡ true → frame c ≡ xs → ⊥) → read_command xs ≡ Err Invalid

-- RdReg asks for the wake-up event register or for ARC_B, one byte of it, and for nothing else
abbrev pub RegistersRead : Type 0
RegistersRead = (xs : List ℕ) → (allowed (command RdReg xs) ≡ true) ↔ ((xs ≡ 0x62 ∷ 0x01 ∷ 0x00 ∷ []) ⊎ (xs ≡ 0x69 ∷ 0x01 ∷ 0x00 ∷ []))

-- what WrReg may be given: the index of ARC_B; behind it a value of ARC_B, of a modulation index and a gain; or a timer window from 50 to 60 with 04
pub data RegisterData : List ℕ → Type 0 where
  index : (f : ℕ) → f ≤ 1 → RegisterData (0x68 ∷ f ∷ 0x01 ∷ [])
  tuning : (f m g : ℕ) → f ≤ 1 → among m modulations ≡ true → among g gains ≡ true → RegisterData (0x68 ∷ f ∷ 0x01 ∷ (16 * m + g) ∷ [])
  window : (f v : ℕ) → f ≤ 1 → 0x50 ≤ v → v ≤ 0x60 → RegisterData (0x3A ∷ f ∷ v ∷ 0x04 ∷ [])

-- it takes these and nothing else
abbrev pub RegistersWritten : Type 0
RegistersWritten = (xs : List ℕ) → (allowed (command WrReg xs) ≡ true) ↔ RegisterData xs

-- a refused write leaves the output as it was
abbrev pub WritesNothing : Type 0
WritesNothing = (i : Interface) (t : Transfer) (out : List ℕ) (k : Refusal) → (write i t out).answer ≡ Err k → (write i t out).bytes ≡ out

-- ---- demand 2: replies

-- some reply to the command begins with the bytes, and is longer
abbrev pub GoesOn : Awaited → List ℕ → Type 0
GoesOn a xs = (b : ℕ) × (bs : List ℕ) × (e : End) × (payload : List ℕ) × Reply a (xs ++ b ∷ bs) e payload

-- the bytes begin with a reply, of the end and the data given, that takes so many bytes
abbrev pub Begins : Awaited → List ℕ → End → List ℕ → ℕ → Type 0
Begins a xs e payload used = (ys : List ℕ) × (zs : List ℕ) × (xs ≡ ys ++ zs) × (used ≡ length ys) × Reply a ys e payload

-- malformed at the first byte that no reply to the awaited command has there after the bytes before it
abbrev pub Breaks : Awaited → List ℕ → ℕ → ℕ → ℕ → Type 0
Breaks a xs place b used =
    (ys : List ℕ) × (zs : List ℕ) × (xs ≡ ys ++ b ∷ zs) × (place ≡ length ys) × (used ≡ suc (length ys)) × GoesOn a ys
    × ((ws : List ℕ) (e : End) (payload : List ℕ) → Reply a (ys ++ b ∷ ws) e payload → ⊥)

abbrev pub EndsBy : End → Awaited → List ℕ → List ℕ → ℕ → Type 0
EndsBy Good a xs payload used = Begins a xs Good payload used
EndsBy (Woken w) a xs payload used = Begins a xs (Woken w) payload used
EndsBy (Error code) a xs payload used = Begins a xs (Error code) payload used
EndsBy (Malformed place b) a xs payload used = Breaks a xs place b used

abbrev pub MeansBy : Verdict → Awaited → List ℕ → List ℕ → ℕ → Type 0
MeansBy More a xs payload used = GoesOn a xs × (used ≡ length xs)
MeansBy (Ended e) a xs payload used = EndsBy e a xs payload used
MeansBy NoRoom a xs payload used = ⊥

-- what the table says of bytes is right by the replies, for every command and all bytes
abbrev pub Tabled : Type 0
Tabled = (a : Awaited) (xs : List ℕ) → MeansBy (reply a xs).verdict a xs (reply a xs).payload (reply a xs).used

-- the first of two where the verdict is More, otherwise the second
abbrev pub if_more : {A : Type 0} → Verdict → A → A → A
if_more More x y = x
if_more (Ended e) x y = y
if_more NoRoom x y = y

-- a piece was fed, with k bytes consumed before it: the next is fed where it answers More, and otherwise its answer is the end
abbrev pub onward : Ran Fed → List ℕ → ℕ → (Progress → List ℕ → ℕ → Meaning) → Meaning
onward m piece k go =
    if_more m.answer.verdict
    (go m.answer.progress m.bytes (k + m.answer.used))
    (meaning m.answer.verdict (data_of piece m.bytes m.answer.place) (k + m.answer.used))

-- the pieces are fed in order with one room, until one answers another verdict than More
abbrev pub feeds : Progress → List (List ℕ) → List ℕ → ℕ → Meaning
feeds p [] room k = meaning More [] k
feeds p (xs ∷ pieces) room k = onward (feed p xs room) xs k (λ p' room' k'. feeds p' pieces room' k')

-- under any cutting the verdict, the data bytes and the number of bytes consumed in all are those that the table says of the whole
abbrev pub Cutting : Type 0
Cutting =
    (a : Awaited) (pieces : List (List ℕ)) (room : List ℕ) → least_room ≤ length room →
    feeds (begun a) pieces room 0 ≡ reply a (concat pieces)

-- each of the four events, with its bit in WU source
pub data BitOf : ℕ → ℕ → Type 0 where
  timeout : BitOf 0x01 0
  tag : BitOf 0x02 1
  irq_in : BitOf 0x08 3
  spi_ss : BitOf 0x10 4

-- the number of a malformed reply to the awaited command, by place and byte: 51 at the first byte, 52 at the second; of an Idle, at the third,
-- 53 for an event that is none of the four, 54 for one of them that was not enabled
pub data Wrong : Awaited → ℕ → ℕ → ℕ → Type 0 where
  first : (a : Awaited) (b : ℕ) → Wrong a 51 0 b
  second : (a : Awaited) (b : ℕ) → Wrong a 52 1 b
  unknown : (source b : ℕ) → ((k : ℕ) → BitOf b k → ⊥) → Wrong (idled source) 53 2 b
  disabled : (source b k : ℕ) → BitOf b k → bit k source ≡ false → Wrong (idled source) 54 2 b

-- under any cutting the place is counted from the reply's start, and the byte is the one that was fed there
abbrev pub Located : Type 0
Located =
    (a : Awaited) (pieces : List (List ℕ)) (room : List ℕ) → least_room ≤ length room →
    (place b : ℕ) → (feeds (begun a) pieces room 0).verdict ≡ Ended (Malformed place b) →
    Breaks a (concat pieces) place b (feeds (begun a) pieces room 0).used × Wrong a (flaw_number (flaw_at (form_of a) place b)) place b

-- where reading stands and what the room holds, where the pieces are fed in order with one room
abbrev pub standing : Progress → List ℕ → List (List ℕ) → Ran Progress
standing p room [] = record { answer = p; bytes = room }
standing p room (xs ∷ pieces) = standing (feed p xs room).answer.progress (feed p xs room).bytes pieces

-- while more is to come, the data bytes already taken stand at the front of the room, the rest is as it was, and the same reply is awaited
abbrev pub Held : Type 0
Held =
    (a : Awaited) (pieces : List (List ℕ)) (room : List ℕ) → least_room ≤ length room → (reply a (concat pieces)).verdict ≡ More →
    ((standing (begun a) room pieces).bytes ≡ drop 2 (concat pieces) ++ drop (length (concat pieces) - 2) room)
    × ((standing (begun a) room pieces).answer.awaited ≡ a)

-- the reply ended with a byte of this very piece, and the next would be read from its start; an error and a malformed one write nothing
pub record Closes (e : End) (piece room : List ℕ) (p : Progress) (m : Ran Fed) : Type 0 where
  pub some : 0 < m.answer.used
  pub no_more : m.answer.used ≤ length piece
  pub anew : m.answer.progress ≡ begun p.awaited
  pub unwritten : has_data e ≡ false → m.bytes ≡ room

-- a piece that answers More is consumed whole, and the same reply is awaited; a room too short changes nothing
abbrev pub TakesBy : Verdict → List ℕ → List ℕ → Progress → Ran Fed → Type 0
TakesBy More piece room p m = (m.answer.used ≡ length piece) × (m.answer.progress.awaited ≡ p.awaited)
TakesBy (Ended e) piece room p m = Closes e piece room p m
TakesBy NoRoom piece room p m = (m.answer.used ≡ 0) × (m.answer.progress ≡ p) × (m.bytes ≡ room)

abbrev pub Takes : Type 0
Takes = (p : Progress) (piece room : List ℕ) → TakesBy (feed p piece room).answer.verdict piece room p (feed p piece room)

-- no reply has more data bytes than the least room holds, nor more bytes than the greatest read takes
abbrev pub Longest : Type 0
Longest = (a : Awaited) (xs : List ℕ) (e : End) (payload : List ℕ) → Reply a xs e payload → (length payload ≤ least_room) × (length xs ≤ greatest_read)

-- to SendRecv one has as many, behind C0 10: in the least room, under any cutting, all its data are delivered
abbrev pub Delivers : Type 0
Delivers =
    (first : ℕ) (payload room : List ℕ) → length payload ≡ least_room → length room ≡ least_room →
    (pieces : List (List ℕ)) → concat pieces ≡ 0xC0 ∷ 0x10 ∷ payload →
    feeds (begun (record { kind = SendRecv; first = first })) pieces room 0 ≡ meaning (Ended Good) payload greatest_read

-- a place lies inside the buffer that it names
abbrev pub Inside : Place → List ℕ → List ℕ → Type 0
Inside Nowhere piece room = Unit {0}
Inside (Piece start count) piece room = start + count ≤ length piece
Inside (Room count) piece room = count ≤ length room

-- no record, whether or not a call made it, reaches past the room: the room keeps its length, and data lie inside the piece or the room
abbrev pub Reaches : Type 0
Reaches =
    (p : Progress) (piece room : List ℕ) →
    (length (feed p piece room).bytes ≡ length room) × Inside (feed p piece room).answer.place piece (feed p piece room).bytes

-- ---- demand 2: waiting times

-- each field in milliseconds is its ticks / 32, exactly
pub record InTicks (s : Settings) : Type 0 where
  pub low : exactly (times s).low (ticks s).low
  pub reference : exactly (times s).reference (ticks s).reference
  pub inactive : exactly (times s).inactive (ticks s).inactive
  pub timeout : exactly (times s).timeout (ticks s).timeout
  pub osc : exactly (times s).osc (ticks s).osc
  pub dac : exactly (times s).dac (ticks s).dac

abbrev pub Exact : Type 0
Exact = (s : Settings) → Bytes (idle_data s) → InTicks s

-- the greatest t_TO is 134,217,728 ticks
abbrev pub Greatest : Type 0
Greatest = (s : Settings) → Bytes (idle_data s) → t_to s ≤ 134217728

-- ---- any two outcomes that a contract allows coincide

pub record OneEach : Type 0 where
  pub pastes : (buffer src : List ℕ) (at : ℕ) → OneAnswer (Pastes buffer src at)
  pub writes : (i : Interface) (t : Transfer) (out : List ℕ) → OneOutcome (Writes i t out)
  pub reads : (xs : List ℕ) → OneAnswer (Reads xs)
  pub reads_first : (xs : List ℕ) → OneAnswer (ReadsFirst xs)
  pub receives : (xs : List ℕ) → OneAnswer (Receives xs)
  pub flagged : (b : ℕ) → OneAnswer (Flagged b)
  pub gathers : (xs : List ℕ) → OneAnswer (Gathers xs)
  pub allows : (s : Settings) → OneAnswer (Allows s)
  pub prescales : (w : ℕ) → OneAnswer (Prescales w)
  pub feeds : (p : Progress) (piece room : List ℕ) → OneOutcome (Feeds p piece room)
  pub chooses : (piece room : List ℕ) (place : Place) → OneAnswer (Chooses piece room place)
  pub sets : (plan : Plan) (level : ℕ) → OneAnswer (Sets plan level)
  pub hears : (s : Search) (w : Wake) → OneAnswer (Hears s w)
  pub guards : (reference : ℕ) → OneAnswer (Guards reference)
  pub unpowered : OneAnswer Unpowered
  pub meets : (s : Session) (call : Call) → OneOutcome (Meets s call)
  pub timed : (s : Settings) → OneAnswer (Timed s)
  pub waits : (s : Settings) → OneAnswer (Waits s)

-- Document 01, "The chip as we track it" and "Refusals by number": what each call does to a session.
-- Assumes nothing.
use Rattle.std.specs.Prelude.{ℕ, ◌+◌, ◌≡◌, Bool, true, false, not, ◌&&◌, ◌||◌, List, [], ◌∷◌, ◌++◌, ltb, leb, eqb, length, get_or, Option, Some, None}
use Rattle.model.specs.declared.Interface.{Interface}
use Rattle.model.specs.declared.Interface.TheVariants.{Uart}
use Rattle.model.specs.declared.Refusal.{Refusal}
use Rattle.model.specs.declared.Kind.{Kind}
use Rattle.model.specs.declared.Awaited.{Awaited}
use Rattle.model.specs.declared.Progress.{Progress}
use Rattle.model.specs.declared.Wake.{Wake}
use Rattle.model.specs.declared.End.{End}
use Rattle.model.specs.declared.Verdict.{Verdict}
use Rattle.model.specs.declared.Place.{Place}
use Rattle.model.specs.declared.Place.TheVariants.{Nowhere}
use Rattle.model.specs.declared.Fed.{Fed}
use Rattle.model.specs.declared.Plan.{Plan}
use Rattle.model.specs.declared.Search.{Search}
use Rattle.model.specs.declared.Calibration.{Calibration}
use Rattle.model.specs.declared.Turn.{Turn}
use Rattle.model.specs.declared.Turn.TheVariants.{Goes, Names, Fails}
use Rattle.model.specs.declared.State.{State}
use Rattle.model.specs.declared.State.TheVariants.{PowerUp, Ready, Selected, Waiting, Lost}
use Rattle.model.specs.declared.Session.{Session}
use Rattle.model.specs.declared.Answer.{Answer}
use Rattle.model.specs.declared.Outcome.{Outcome}
use Rattle.words.specs.Words.{pick, over}
use Rattle.words.specs.Contract.{Ran, Is}
use Rattle.model.specs.Checks.{Check, ◌when◌, judged}
use Rattle.model.specs.Frames.{Command, is, idle, Transfer, send, bytes, writing}
use Rattle.model.specs.Replies.{least_room, begun, fed_from}
use Rattle.model.specs.Calibration.{settings_at, search, most_commands, is_tag, heard, searching}

-- ---- sessions

abbrev pub made : Interface → State → Option Calibration → Session
made i state c = record { interface = i; state = state; calibration = c }

-- the same session in another state, with a calibration or none
abbrev pub into : Session → State → Option Calibration → Session
into s state c = record { interface = s.interface; state = state; calibration = c }

-- power-on leads to Power-up from any state, and drops an awaited reply and a calibration
abbrev pub powered : Interface → Session
powered i = made i PowerUp None

-- the record before the first power-on
abbrev pub unpowered : Session
unpowered = made Uart Lost None

-- an IRQ_IN pulse takes Power-up to Ready and changes no other state
abbrev pub pulsed : State → State
pulsed PowerUp = Ready
pulsed Ready = Ready
pulsed (Selected protocol) = Selected protocol
pulsed (Waiting progress selected) = Waiting progress selected
pulsed Lost = Lost

-- ---- answers

abbrev pub outcome : Session → Answer → Outcome
outcome s answer = record { session = s; answer = answer; used = 0; place = Nowhere }

-- a refusal that changes nothing, writes nothing and consumes nothing
abbrev pub refuse : Session → Refusal → List ℕ → Ran Outcome
refuse s k buffer = record { answer = outcome s (Answer.Refused k); bytes = buffer }

-- ---- what a state allows

-- the reply that is awaited, with the protocol that was selected before
pub data Awaits : Type 0 where
  none : Awaits
  some : Progress → ℕ → Awaits

abbrev pub awaits : State → Awaits
awaits PowerUp = none
awaits Ready = none
awaits (Selected protocol) = none
awaits (Waiting progress selected) = some progress selected
awaits Lost = none

abbrev pub is_some : Awaits → Bool
is_some none = false
is_some (some progress selected) = true

abbrev pub is_waiting : State → Bool
is_waiting state = is_some (awaits state)

abbrev pub is_running : Option Calibration → Bool
is_running None = false
is_running (Some c) = true

-- a reply is awaited or a calibration runs
abbrev pub busy : Session → Bool
busy s = is_waiting s.state || is_running s.calibration

-- Power-up or Lost
abbrev pub is_off : State → Bool
is_off PowerUp = true
is_off Ready = false
is_off (Selected protocol) = false
is_off (Waiting progress selected) = false
is_off Lost = true

-- the protocol that is selected, 0 for none
abbrev pub protocol_of : State → ℕ
protocol_of PowerUp = 0
protocol_of Ready = 0
protocol_of (Selected protocol) = protocol
protocol_of (Waiting progress selected) = 0
protocol_of Lost = 0

abbrev pub is_selected : State → Bool
is_selected PowerUp = false
is_selected Ready = false
is_selected (Selected protocol) = true
is_selected (Waiting progress selected) = false
is_selected Lost = false

abbrev pub is_send_recv : Command → Bool
is_send_recv c = is c.kind Kind.SendRecv

abbrev pub is_empty : List ℕ → Bool
is_empty [] = true
is_empty (x ∷ xs) = false

-- the state is Power-up or Lost, or SendRecv outside Selected
abbrev pub unready : State → Command → Bool
unready state c = is_off state || (is_send_recv c && not (is_selected state))

-- SendRecv with n = 0 only with protocol 1 selected
abbrev pub barred : State → Command → Bool
barred state c = is_send_recv c && is_empty c.payload && not (eqb (protocol_of state) 1)

-- each next command of a calibration is due once the answer is in, which leaves Ready
abbrev pub is_due : State → Search → Bool
is_due PowerUp found = false
is_due Ready found = ltb found.commands most_commands
is_due (Selected protocol) found = false
is_due (Waiting progress selected) found = false
is_due Lost found = false

-- ---- a command

-- what its reply is read by: the command, with its first data byte
abbrev pub awaited_of : Command → Awaited
awaited_of c = record { kind = c.kind; first = get_or c.payload 0 0 }

-- its reply is awaited
abbrev pub awaiting : Session → Command → Option Calibration → Session
awaiting s c calibration = into s (Waiting (begun (awaited_of c)) (protocol_of s.state)) calibration

-- ---- a reply

-- Ready for protocol 0, Selected otherwise
abbrev pub resting : ℕ → State
resting protocol = pick (eqb protocol 0) Ready (Selected protocol)

-- the state after a good reply, with the protocol that was selected before: ProtocolSelect's own, or the state before
abbrev pub after_good : Awaited → ℕ → State
after_good a selected = pick (is a.kind Kind.ProtocolSelect) (resting a.first) (resting selected)

-- and after the chip's error: Ready for ProtocolSelect
abbrev pub after_error : Awaited → ℕ → State
after_error a selected = pick (is a.kind Kind.ProtocolSelect) Ready (resting selected)

-- k bytes of a piece were consumed, and the session goes on in a state, with a calibration or none
abbrev pub ended : Session → State → Option Calibration → Answer → ℕ → Place → Outcome
ended s state c answer k place = record { session = into s state c; answer = answer; used = k; place = place }

-- where an answer leads a calibration; a good Idle gives Ready, the selection forgotten
abbrev pub turned : Turn → Plan → Wake → Session → ℕ → Place → Outcome
turned (Goes found) plan w s k place = ended s Ready (searching plan found) (Answer.Woken w) k place
turned (Names reference commands) plan w s k place = ended s Ready None (Answer.Reference reference commands) k place
turned (Fails refusal) plan w s k place = ended s Ready None (Answer.Refused refusal) k place

abbrev pub woken : Option Calibration → Wake → Session → ℕ → Place → Outcome
woken None w s k place = ended s Ready None (Answer.Woken w) k place
woken (Some c) w s k place = turned (heard c.search w) c.plan w s k place

-- 7 outside calibration, 12 in it
abbrev pub error_by : Option Calibration → ℕ → Refusal
error_by None code = Refusal.ChipError code
error_by (Some c) code = Refusal.CalibrationError code c.search.commands

-- a reply ended; of a record that no call made, a good reply to another command than Idle leaves the calibration alone
abbrev pub ended_by : End → Session → Awaited → ℕ → ℕ → Place → Outcome
ended_by End.Good s a selected k place = ended s (after_good a selected) s.calibration Answer.Good k place
ended_by (End.Woken w) s a selected k place = woken s.calibration w s k place
ended_by (End.Error code) s a selected k place = ended s (after_error a selected) None (Answer.Refused (error_by s.calibration code)) k place
ended_by (End.Malformed at b) s a selected k place = ended s Lost None (Answer.Refused Refusal.Malformed) k place

-- what a piece that was read does to a session that waits
abbrev pub outcome_by : Verdict → Fed → Session → Awaited → ℕ → Outcome
outcome_by Verdict.More fed s a selected = ended s (Waiting fed.progress selected) s.calibration Answer.More fed.used Nowhere
outcome_by (Verdict.Ended e) fed s a selected = ended_by e s a selected fed.used fed.place
outcome_by Verdict.NoRoom fed s a selected = outcome s (Answer.Refused Refusal.Short)

-- from a progress, in a room that is long enough
abbrev pub outcome_of : Session → Progress → ℕ → List ℕ → List ℕ → Ran Outcome
outcome_of s p selected piece room =
    let m : Ran Fed = fed_from p.awaited p.phase piece room in
    record { answer = outcome_by m.answer.verdict m.answer s p.awaited selected; bytes = m.bytes }

-- ---- calls

-- the entry points, with what each is handed; the last list is the buffer that it is lent
pub data Call : Type 0 where
  power_on : Interface → Call
  pulse : Call
  request : Command → List ℕ → Call
  reset : List ℕ → Call
  poll : List ℕ → Call
  read : ℕ → List ℕ → Call
  calibrate : Plan → List ℕ → Call
  next : List ℕ → Call
  feed : List ℕ → List ℕ → Call

-- the buffer that a call is lent
abbrev pub lent : Call → List ℕ
lent (power_on i) = []
lent pulse = []
lent (request c out) = out
lent (reset out) = out
lent (poll out) = out
lent (read n out) = out
lent (calibrate plan out) = out
lent (next out) = out
lent (feed piece room) = room

-- ---- THE ORDER OF CHECKS, of the refusals that change nothing

-- by the state alone: 3, 2
abbrev pub placing : State → Command → List Check
placing state c = Refusal.Unready when unready state c ∷ Refusal.Invalid when barred state c ∷ []

-- a request: 4, 3, 2, before it is written
abbrev pub asking : Session → Command → List Check
asking s c = Refusal.Busy when busy s ∷ placing s.state c

-- a start of calibration: 4, 3, 2, before its first command is written
abbrev pub starting : Session → Plan → List Check
starting s plan = Refusal.Busy when busy s ∷ Refusal.Unready when is_off s.state ∷ Refusal.Invalid when ltb 3 plan.prescaler ∷ []

-- the next command of a calibration: 4, before it is written; outside a calibration none is due
abbrev pub continuing : Option Calibration → State → List Check
continuing None state = Refusal.Busy when true ∷ []
continuing (Some c) state = Refusal.Busy when not (is_due state c.search) ∷ []

abbrev pub writing_next : Option Calibration → Session → List ℕ → List Check
writing_next None s out = []
writing_next (Some c) s out = writing s.interface (send (idle (settings_at c.plan c.search.level))) out

-- a piece that is not empty: 6, room, before its bytes are read
abbrev pub feeding : State → List ℕ → List Check
feeding state room = Refusal.Unawaited when not (is_waiting state) ∷ Refusal.Short when ltb (length room) least_room ∷ []

-- what is written, 2 and 1, comes last; an empty piece is never refused
abbrev pub checks : Session → Call → List Check
checks s (power_on i) = []
checks s pulse = []
checks s (request c out) = asking s c ++ writing s.interface (send c) out
checks s (reset out) = writing s.interface Transfer.reset out
checks s (poll out) = writing s.interface Transfer.poll out
checks s (read n out) = writing s.interface (Transfer.read n) out
checks s (calibrate plan out) = starting s plan ++ writing s.interface (send (idle (settings_at plan 0x00))) out
checks s (next out) = continuing s.calibration s.state ++ writing_next s.calibration s out
checks s (feed [] room) = []
checks s (feed (x ∷ xs) room) = feeding s.state room

-- ---- what a call does where none of them holds

abbrev pub says : Session → Answer → List ℕ → Ran Outcome
says s answer buffer = record { answer = outcome s answer; bytes = buffer }

-- a transfer is given out, and the session goes on as after
abbrev pub gives : Session → Transfer → List ℕ → Session → Ran Outcome
gives s t out after = says after (Answer.Sent (length (bytes s.interface t))) (over (bytes s.interface t) out)

-- a command of a calibration
abbrev pub tests : Session → Plan → Search → List ℕ → Ran Outcome
tests s plan found out =
    gives s (send (idle (settings_at plan found.level))) out (awaiting s (idle (settings_at plan found.level)) (searching plan found))

-- a row holds always, and nothing is left to be done
abbrev pub nothing : Session → List ℕ → Ran Outcome
nothing s buffer = says s Answer.Done buffer

abbrev pub continues : Option Calibration → Session → List ℕ → Ran Outcome
continues None s out = nothing s out
continues (Some c) s out = tests s c.plan (search (c.search.commands + 1) c.search.level) out

abbrev pub takes : Awaits → Session → List ℕ → List ℕ → Ran Outcome
takes none s piece room = nothing s room
takes (some progress selected) s piece room = outcome_of s progress selected piece room

-- the start of a calibration gives its first command; reset, poll and read are taken in every state, and an SPI reset leads to Power-up
abbrev pub does : Session → Call → Ran Outcome
does s (power_on i) = says (powered i) Answer.Done []
does s pulse = says (into s (pulsed s.state) s.calibration) Answer.Done []
does s (request c out) = gives s (send c) out (awaiting s c s.calibration)
does s (reset out) = gives s Transfer.reset out (powered s.interface)
does s (poll out) = gives s Transfer.poll out s
does s (read n out) = gives s (Transfer.read n) out s
does s (calibrate plan out) = tests s plan (search 1 0x00) out
does s (next out) = continues s.calibration s out
does s (feed [] room) = says s Answer.More room
does s (feed (x ∷ xs) room) = takes (awaits s.state) s (x ∷ xs) room

-- what a call does to a session: its answer, and what the buffer holds after it
abbrev pub step : Session → Call → Ran Outcome
step s c = judged (checks s c) (λ k. refuse s k (lent c)) (does s c)

-- ---- the refusals that come out of a reply's bytes

-- calibration: level FC, the second command's, answered tag (9); the first command got timeout (8); the eighth tested level 00 and got timeout (10)
abbrev pub wake_checks : Option Calibration → Wake → List Check
wake_checks None w = []
wake_checks (Some c) w =
    Refusal.HighestTag c.search.commands when (is_tag w && eqb c.search.commands 2)
    ∷ Refusal.LowestTimeout c.search.commands when (not (is_tag w) && ltb c.search.commands 2)
    ∷ Refusal.NoLevel c.search.commands when (not (is_tag w) && leb most_commands c.search.commands && ltb c.search.level 4) ∷ []

-- the chip answered with an error code outside calibration (7) and in it (12); a reply is malformed (5)
abbrev pub end_checks : End → Option Calibration → List Check
end_checks End.Good c = []
end_checks (End.Woken w) c = wake_checks c w
end_checks (End.Error code) c = error_by c code when true ∷ []
end_checks (End.Malformed at b) c = Refusal.Malformed when true ∷ []

abbrev pub reply_checks : Verdict → Option Calibration → List Check
reply_checks Verdict.More c = []
reply_checks (Verdict.Ended e) c = end_checks e c
reply_checks Verdict.NoRoom c = []

abbrev pub piece_checks : Awaits → Option Calibration → List ℕ → List ℕ → List Check
piece_checks none c piece room = []
piece_checks (some p selected) c piece room = reply_checks (fed_from p.awaited p.phase piece room).answer.verdict c

abbrev pub replies : Session → Call → List Check
replies s (power_on i) = []
replies s pulse = []
replies s (request c out) = []
replies s (reset out) = []
replies s (poll out) = []
replies s (read n out) = []
replies s (calibrate plan out) = []
replies s (next out) = []
replies s (feed [] room) = []
replies s (feed (x ∷ xs) room) = piece_checks (awaits s.state) s.calibration (x ∷ xs) room

-- all of "Refusals by number": what is checked before a call, then what its reply's bytes say
abbrev pub table : Session → Call → List Check
table s c = checks s c ++ replies s c

-- ---- the contract

-- a call on s may answer r and leave exit in its buffer
abbrev pub Meets : Session → Call → Outcome → List ℕ → Type 0
Meets s call r exit = Is (step s call) r exit

abbrev pub Unpowered : Session → Type 0
Unpowered r = r ≡ unpowered

-- Document 01, "The chip as we track it": the state and the interface of a session, read off what passed over the cable.
-- Assumes nothing.
use Rattle.std.specs.Prelude.{ℕ, zero, suc, ◌≡◌, Bool, true, false, List, [], ◌∷◌}
use Rattle.model.specs.declared.Interface.{Interface}
use Rattle.model.specs.declared.Kind.TheVariants.{ProtocolSelect}
use Rattle.model.specs.declared.Awaited.{Awaited}
use Rattle.model.specs.declared.End.{End}
use Rattle.model.specs.declared.End.TheVariants.{Good, Woken, Error, Malformed}
use Rattle.model.specs.declared.Verdict.{Verdict}
use Rattle.model.specs.declared.Verdict.TheVariants.{More, Ended, NoRoom}
use Rattle.model.specs.declared.State.{State}
use Rattle.model.specs.declared.State.TheVariants.{PowerUp, Ready, Selected, Waiting, Lost}
use Rattle.model.specs.declared.Session.{Session}
use Rattle.words.specs.Words.{pick}
use Rattle.model.specs.Frames.{is}
use Rattle.model.specs.Replies.{begun}
use Rattle.model.specs.Session.{protocol_of, Call, power_on, pulse, request, reset, poll, read, calibrate, next, feed, step}
use Rattle.model.specs.History.{Event, Reached, Passing, given, piece, power, nothing, passing, Exchange, exchanges, verdict_in}
use Rattle.model.specs.Promises.{After}

-- ---- THE STATE AFTER A REPLY, by the awaited command, how its reply ended, and the state before

-- a good ProtocolSelect gives Ready for 0, Selected otherwise
abbrev pub selecting : ℕ → State
selecting zero = Ready
selecting (suc n) = Selected (suc n)

-- ProtocolSelect, or all else
abbrev pub by_select : Awaited → State → State → State
by_select a select else = pick (is a.kind ProtocolSelect) select else

-- a good ProtocolSelect selects, with an error it gives Ready; a good Idle, which wakes, gives Ready, the selection forgotten; a malformed reply
-- gives Lost; all else returns to the state before
abbrev pub after_end : End → Awaited → State → State
after_end Good a before = by_select a (selecting a.first) before
after_end (Woken w) a before = Ready
after_end (Error code) a before = by_select a Ready before
after_end (Malformed place b) a before = Lost

-- ---- the state, off the cable

-- a power-on, or a reset that was sent
abbrev pub is_power : Passing → Bool
is_power (given owner a) = false
is_power (piece xs k) = false
is_power power = true
is_power nothing = false

abbrev pub is_pulse : Call → Bool
is_pulse (power_on i) = false
is_pulse pulse = true
is_pulse (request c out) = false
is_pulse (reset out) = false
is_pulse (poll out) = false
is_pulse (read n out) = false
is_pulse (calibrate plan out) = false
is_pulse (next out) = false
is_pulse (feed xs room) = false

-- a pulse came since the newest power-on or reset
abbrev pub awake : List Event → Bool
awake [] = false
awake (e ∷ h) = pick (is_power (passing e)) false (pick (is_pulse e.call) true (awake h))

-- a command was given out, and the bytes fed since come to this: its reply is awaited, with the state before, or that reply was
abbrev pub tracked : Verdict → Awaited → State → State
tracked More a before = Waiting (begun a) (protocol_of before)
tracked (Ended e) a before = after_end e a before
tracked NoRoom a before = before

-- power-on and reset lead to Power-up, a pulse from there to Ready, and then each command with its reply on
abbrev pub state_in : Bool → List Exchange → State
state_in awake [] = pick awake Ready PowerUp
state_in awake (x ∷ es) = tracked (verdict_in x) x.awaited (state_in awake es)

-- a state, whatever of an awaited reply is in
abbrev pub known : State → State
known PowerUp = PowerUp
known Ready = Ready
known (Selected protocol) = Selected protocol
known (Waiting progress selected) = Waiting (begun progress.awaited) selected
known Lost = Lost

-- the state is the one that the cable tells, however replies are cut and whatever else is called between
abbrev pub Tracks : Type 0
Tracks = (r : Reached) → After r → known r.session.state ≡ state_in (awake r.history) (exchanges r.history)

-- ---- the interface, and the calls that leave a session as it was

abbrev pub interface_by : Call → Interface → Interface
interface_by (power_on i) before = i
interface_by pulse before = before
interface_by (request c out) before = before
interface_by (reset out) before = before
interface_by (poll out) before = before
interface_by (read n out) before = before
interface_by (calibrate plan out) before = before
interface_by (next out) before = before
interface_by (feed xs room) before = before

-- the interface is given at power-on and stays until the next, of every session
abbrev pub Interfaces : Type 0
Interfaces = (s : Session) (c : Call) → (step s c).answer.session.interface ≡ interface_by c s.interface

-- a poll and a read leave the session as it was
abbrev pub KeepsSession : Type 0
KeepsSession = (s : Session) (out : List ℕ) (n : ℕ) → ((step s (poll out)).answer.session ≡ s) × ((step s (read n out)).answer.session ≡ s)

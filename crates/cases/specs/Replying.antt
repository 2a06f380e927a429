-- Document 01, "The chip as we track it": every state before every reply, whole and cut in two. What follows a reply, 99 and 98, stays in the piece.
-- Assumes nothing.
use Rattle.std.specs.Prelude.{ℕ, ◌≡◌, List, [], ◌∷◌, ◌++◌, map, replicate, take, drop}
use Rattle.model.specs.declared.Interface.TheVariants.{Uart}
use Rattle.model.specs.declared.Refusal.TheVariants.{Malformed, ChipError}
use Rattle.model.specs.declared.Phase.{Phase}
use Rattle.model.specs.declared.Phase.TheVariants.{Failed, Counting, Waking, Data}
use Rattle.model.specs.declared.Awaited.{Awaited}
use Rattle.model.specs.declared.Place.{Place}
use Rattle.model.specs.declared.Place.TheVariants.{Nowhere, Piece, Room}
use Rattle.model.specs.declared.State.{State}
use Rattle.model.specs.declared.State.TheVariants.{Ready, Selected, Waiting, Lost}
use Rattle.model.specs.declared.Answer.{Answer}
use Rattle.model.specs.declared.Answer.TheVariants.{More, Good, Refused}
use Rattle.model.specs.declared.Outcome.{Outcome}
use Rattle.model.specs.Frames.{Command, idn, protocol_select, send_recv, idle, rd_reg, wr_reg, echo}
use Rattle.model.specs.Replies.{at}
use Rattle.model.specs.Session.{Call, pulse, request, feed, step}
use Rattle.cases.specs.Awaiting.{index, window, to_idn, to_select, to_send, to_idle, to_read, to_write, woke}
use Rattle.cases.specs.Sessions.{after, selected}
use Rattle.cases.specs.Framing.{levelled}
use Rattle.cases.specs.ByBytes.{fifteen}

-- ---- what a piece leaves

pub record Left : Type 0 where
  pub state : State
  pub answer : Answer
  pub used : ℕ
  pub place : Place

abbrev pub left : State → Answer → ℕ → Place → Left
left state answer used place = record { state = state; answer = answer; used = used; place = place }

abbrev pub left_by : Outcome → Left
left_by o = left o.session.state o.answer o.used o.place

-- the chip's error, and a malformed byte
abbrev pub fault : State → ℕ → ℕ → Left
fault state code used = left state (Refused (ChipError code)) used Nowhere

abbrev pub bad : ℕ → Left
bad used = left Lost (Refused Malformed) used Nowhere

-- a room of 16 different bytes, and 512 more
abbrev pub front : List ℕ
front = 0xE0 ∷ 0xE1 ∷ 0xE2 ∷ 0xE3 ∷ 0xE4 ∷ 0xE5 ∷ 0xE6 ∷ 0xE7 ∷ 0xE8 ∷ 0xE9 ∷ 0xEA ∷ 0xEB ∷ 0xEC ∷ 0xED ∷ 0xEE ∷ 0xEF ∷ []

abbrev pub lent : List ℕ
lent = front ++ replicate 512 0xDD

-- a command is sent after calls, and a piece comes; and the same with the piece cut behind its first k bytes
abbrev pub whole : List Call → Command → List ℕ → Left
whole before c piece = left_by (step (after Uart (before ++ request c lent ∷ [])).session (feed piece lent)).answer

abbrev pub cut : ℕ → List Call → Command → List ℕ → Left
cut k before c piece = left_by (step (after Uart (before ++ request c lent ∷ feed (take k piece) lent ∷ [])).session (feed (drop k piece) lent)).answer

-- ---- the replies

abbrev pub named : List ℕ
named = 0x00 ∷ 0x0F ∷ fifteen ++ 0x99 ∷ 0x98 ∷ []

abbrev pub sleep : Command
sleep = idle (levelled 0xDB 0x10 0x11)

abbrev pub sends : Command
sends = send_recv (0x26 ∷ 0x01 ∷ [])

abbrev pub three : List ℕ
three = 0x80 ∷ 0x03 ∷ 0xC1 ∷ 0xC2 ∷ 0xC3 ∷ 0x99 ∷ 0x98 ∷ []

-- one data byte, an event or the value of a register
abbrev pub single : ℕ → List ℕ
single b = 0x00 ∷ 0x01 ∷ b ∷ 0x99 ∷ 0x98 ∷ []

-- two bytes, and what follows
abbrev pub pair : ℕ → ℕ → List ℕ
pair a b = a ∷ b ∷ 0x99 ∷ 0x98 ∷ []

-- after calls that lead to a state without an awaited reply
pub record From (before : List Call) (state : State) : Type 0 where
  pub to_idn_case :
      map (whole before idn) (named ∷ pair 0x83 0x00 ∷ pair 0x83 0x01 ∷ pair 0x84 0x00 ∷ pair 0x00 0x0E ∷ pair 0x00 0x10 ∷ pair 0x55 0x00 ∷ []) ≡
      left state Good 17 (Piece 2 15) ∷ fault state 0x83 2 ∷ bad 2 ∷ bad 1 ∷ bad 2 ∷ bad 2 ∷ bad 1 ∷ []
  pub to_select_2 :
      map (whole before (protocol_select 2 (0x05 ∷ []))) (pair 0x00 0x00 ∷ pair 0x83 0x00 ∷ pair 0x83 0x02 ∷ pair 0x00 0x01 ∷ pair 0x80 0x00 ∷ []) ≡
      left (Selected 2) Good 2 Nowhere ∷ fault Ready 0x83 2 ∷ bad 2 ∷ bad 2 ∷ bad 1 ∷ []
  pub to_select_0 :
      map (whole before (protocol_select 0 (0x05 ∷ []))) (pair 0x00 0x00 ∷ pair 0x85 0x00 ∷ pair 0x00 0x01 ∷ []) ≡
      left Ready Good 2 Nowhere ∷ fault Ready 0x85 2 ∷ bad 2 ∷ []
  -- a good Idle forgets the selection, its error does not
  pub to_idle_case :
      map (whole before sleep) (
      single 0x01 ∷ single 0x02 ∷ single 0x08 ∷ single 0x10 ∷ pair 0x86 0x00 ∷ pair 0x86 0x86 ∷ single 0x00 ∷ single 0x04 ∷ single 0x03 ∷
      pair 0x00 0x00 ∷ pair 0x00 0x02 ∷ pair 0x01 0x00 ∷ []) ≡
      left Ready (woke 0x01) 3 (Piece 2 1) ∷ left Ready (woke 0x02) 3 (Piece 2 1) ∷ left Ready (woke 0x08) 3 (Piece 2 1) ∷
      left Ready (woke 0x10) 3 (Piece 2 1) ∷ fault state 0x86 2 ∷ bad 2 ∷ bad 3 ∷ bad 3 ∷ bad 3 ∷ bad 2 ∷ bad 2 ∷ bad 1 ∷ []
  -- registers leave the state as it was
  pub to_read_case :
      map (whole before (rd_reg 0x69)) (
      single 0x5F ∷ single 0x00 ∷ pair 0x82 0x00 ∷ pair 0x8F 0x00 ∷ pair 0x83 0x01 ∷ pair 0x00 0x00 ∷ pair 0x00 0x02 ∷ pair 0x01 0x5F ∷ pair 0x80 0x01 ∷ []) ≡
      left state Good 3 (Piece 2 1) ∷ left state Good 3 (Piece 2 1) ∷ fault state 0x82 2 ∷ fault state 0x8F 2 ∷ bad 2 ∷ bad 2 ∷ bad 2 ∷ bad 1 ∷ bad 1 ∷ []
  pub to_write_case :
      map (whole before (wr_reg (index 0x00))) (
      pair 0x00 0x00 ∷ pair 0x86 0x00 ∷ pair 0x82 0x00 ∷ pair 0x83 0x82 ∷ pair 0x00 0x01 ∷ pair 0x84 0x00 ∷ pair 0x55 0x00 ∷ []) ≡
      left state Good 2 Nowhere ∷ fault state 0x86 2 ∷ fault state 0x82 2 ∷ bad 2 ∷ bad 2 ∷ bad 1 ∷ bad 1 ∷ []
  -- to Echo there is no error
  pub to_echo_case :
      map (whole before echo) (pair 0x55 0x99 ∷ pair 0x82 0x00 ∷ pair 0x00 0x00 ∷ pair 0x54 0x00 ∷ pair 0x56 0x00 ∷ []) ≡
      left state Good 1 Nowhere ∷ bad 1 ∷ bad 1 ∷ bad 1 ∷ bad 1 ∷ []

-- SendRecv is for Selected alone
pub record FromSelected (before : List Call) (state : State) : Type 0 where
  pub to_send_case :
      map (whole before sends) (
      three ∷ pair 0x80 0x00 ∷ pair 0x8E 0x00 ∷ pair 0x8E 0x8E ∷ pair 0x81 0x00 ∷ pair 0x7F 0x00 ∷ pair 0x90 0x00 ∷ pair 0x00 0x00 ∷ []) ≡
      left state Good 5 (Piece 2 3) ∷ left state Good 2 Nowhere ∷ fault state 0x8E 2 ∷ bad 2 ∷ bad 1 ∷ bad 1 ∷ bad 1 ∷ bad 1 ∷ []

abbrev pub EveryState : Type 0
EveryState =
    From (pulse ∷ []) Ready × From (selected 1) (Selected 1) × From (selected 3) (Selected 3) × FromSelected (selected 1) (Selected 1) × FromSelected (selected 4) (Selected 4)

-- ---- cut in two

-- with state and protocol before
pub record Cut (before : List Call) (state : State) : Type 0 where
  -- behind the first byte
  pub by_one :
      cut 1 before idn named ∷ cut 1 before idn (pair 0x87 0x00) ∷ cut 1 before idn (pair 0x87 0x87) ∷ cut 1 before idn (pair 0x00 0x0E) ∷
      cut 1 before (protocol_select 2 (0x05 ∷ [])) (pair 0x00 0x00) ∷ cut 1 before (protocol_select 2 (0x05 ∷ [])) (pair 0x88 0x00) ∷
      cut 1 before (protocol_select 0 (0x05 ∷ [])) (pair 0x00 0x00) ∷ cut 1 before (protocol_select 2 (0x05 ∷ [])) (pair 0x00 0x02) ∷
      cut 1 before sleep (single 0x10) ∷ cut 1 before sleep (single 0x04) ∷ cut 1 before sleep (pair 0x89 0x00) ∷ cut 1 before sleep (pair 0x00 0x00) ∷
      cut 1 before (rd_reg 0x62) (single 0xE7) ∷ cut 1 before (rd_reg 0x62) (pair 0x8A 0x00) ∷ cut 1 before (rd_reg 0x62) (pair 0x00 0x00) ∷
      map (cut 1 before (wr_reg (window 0x01 0x58))) (pair 0x00 0x00 ∷ pair 0x8B 0x00 ∷ pair 0x8B 0x8B ∷ []) ≡
      left state Good 16 (Piece 1 15) ∷ fault state 0x87 1 ∷ bad 1 ∷ bad 1 ∷
      left (Selected 2) Good 1 Nowhere ∷ fault Ready 0x88 1 ∷
      left Ready Good 1 Nowhere ∷ bad 1 ∷
      left Ready (woke 0x10) 2 (Piece 1 1) ∷ bad 2 ∷ fault state 0x89 1 ∷ bad 1 ∷
      left state Good 2 (Piece 1 1) ∷ fault state 0x8A 1 ∷ bad 1 ∷
      left state Good 1 Nowhere ∷ fault state 0x8B 1 ∷ bad 1 ∷ []
  -- behind the second and the third
  pub by_more :
      cut 2 before idn named ∷ cut 3 before idn named ∷ cut 16 before idn named ∷ cut 2 before sleep (single 0x08) ∷ cut 2 before sleep (single 0x20) ∷
      cut 2 before (rd_reg 0x69) (single 0x5F) ∷ [] ≡
      left state Good 15 (Piece 0 15) ∷ left state Good 14 (Room 15) ∷ left state Good 1 (Room 15) ∷ left Ready (woke 0x08) 1 (Piece 0 1) ∷ bad 1 ∷
      left state Good 1 (Piece 0 1) ∷ []

pub record CutSelected (before : List Call) (state : State) : Type 0 where
  pub send :
      cut 1 before sends three ∷ cut 2 before sends three ∷ cut 3 before sends three ∷ cut 4 before sends three ∷
      cut 1 before sends (pair 0x80 0x00) ∷ cut 1 before sends (pair 0x8A 0x00) ∷ cut 1 before sends (pair 0x8A 0x01) ∷ [] ≡
      left state Good 4 (Piece 1 3) ∷ left state Good 3 (Piece 0 3) ∷ left state Good 2 (Room 3) ∷ left state Good 1 (Room 3) ∷
      left state Good 1 Nowhere ∷ fault state 0x8A 1 ∷ bad 1 ∷ []

abbrev pub EveryCut : Type 0
EveryCut = Cut (pulse ∷ []) Ready × Cut (selected 3) (Selected 3) × CutSelected (selected 2) (Selected 2) × CutSelected (selected 4) (Selected 4)

-- ---- the first of two pieces

-- all is consumed and no data are told; the protocol that was selected is kept, 0 for none
abbrev pub waits : Awaited → Phase → ℕ → ℕ → Left
waits a phase selected used = left (Waiting (at a phase) selected) More used Nowhere

pub record Begun (before : List Call) (protocol : ℕ) : Type 0 where
  pub idn_begun :
      map (λ (k : ℕ). whole before idn (take k named)) (1 ∷ 2 ∷ 3 ∷ 16 ∷ []) ≡
      waits to_idn (Counting 0x00) protocol 1 ∷ waits to_idn (Data 0 15) protocol 2 ∷ waits to_idn (Data 1 15) protocol 3 ∷ waits to_idn (Data 14 15) protocol 16 ∷ []
  pub others_begun :
      whole before idn (0x8B ∷ []) ∷ whole before (protocol_select 2 (0x05 ∷ [])) (0x00 ∷ []) ∷ whole before (protocol_select 2 (0x05 ∷ [])) (0x8C ∷ []) ∷
      whole before sleep (0x00 ∷ []) ∷ whole before sleep (0x00 ∷ 0x01 ∷ []) ∷ whole before sleep (0x8D ∷ []) ∷
      whole before (rd_reg 0x69) (0x00 ∷ []) ∷ whole before (rd_reg 0x69) (0x00 ∷ 0x01 ∷ []) ∷ whole before (rd_reg 0x62) (0x82 ∷ []) ∷
      whole before (wr_reg (index 0x00)) (0x00 ∷ []) ∷ whole before (wr_reg (window 0x01 0x58)) (0x86 ∷ []) ∷ [] ≡
      waits to_idn (Failed 0x8B) protocol 1 ∷ waits (to_select 2) (Counting 0x00) protocol 1 ∷ waits (to_select 2) (Failed 0x8C) protocol 1 ∷
      waits (to_idle 0xDB) (Counting 0x00) protocol 1 ∷ waits (to_idle 0xDB) Waking protocol 2 ∷ waits (to_idle 0xDB) (Failed 0x8D) protocol 1 ∷
      waits (to_read 0x69) (Counting 0x00) protocol 1 ∷ waits (to_read 0x69) (Data 0 1) protocol 2 ∷ waits (to_read 0x62) (Failed 0x82) protocol 1 ∷
      waits (to_write (index 0x00)) (Counting 0x00) protocol 1 ∷ waits (to_write (window 0x01 0x58)) (Failed 0x86) protocol 1 ∷ []

abbrev pub BegunSelected : Type 0
BegunSelected =
    map (λ (k : ℕ). whole (selected 4) sends (take k three)) (1 ∷ 2 ∷ 3 ∷ 4 ∷ []) ≡
    waits to_send (Counting 0x80) 4 1 ∷ waits to_send (Data 0 3) 4 2 ∷ waits to_send (Data 1 3) 4 3 ∷ waits to_send (Data 2 3) 4 4 ∷ []

abbrev pub EveryBeginning : Type 0
EveryBeginning = Begun (pulse ∷ []) 0 × Begun (selected 3) 3 × BegunSelected

-- ---- the room

-- after the first k bytes of a reply, and after its rest, which is lent the same room
abbrev pub room_after : ℕ → List Call → Command → List ℕ → List ℕ
room_after k before c piece = (step (after Uart (before ++ request c lent ∷ [])).session (feed (take k piece) lent)).bytes

abbrev pub room_at_end : ℕ → List Call → Command → List ℕ → List ℕ
room_at_end k before c piece =
    (step (after Uart (before ++ request c lent ∷ feed (take k piece) lent ∷ [])).session (feed (drop k piece) (room_after k before c piece))).bytes

pub record Rooms : Type 0 where
  -- all data in one piece: untouched
  pub untouched :
      map (λ (k : ℕ). room_at_end k (selected 3) sends three) (0 ∷ 1 ∷ 2 ∷ []) ++ map (λ (k : ℕ). room_at_end k (selected 3) sleep (single 0x02)) (0 ∷ 1 ∷ 2 ∷ []) ++
      map (λ (k : ℕ). room_at_end k (selected 3) (rd_reg 0x69) (single 0x5F)) (0 ∷ 1 ∷ 2 ∷ []) ≡
      replicate 9 lent
  -- data bytes already taken stand at the front, the rest is untouched
  pub front_of_send :
      room_after 3 (selected 3) sends three ∷ room_after 4 (selected 3) sends three ∷ room_at_end 3 (selected 3) sends three ∷ room_at_end 4 (selected 3) sends three ∷ [] ≡
      (0xC1 ∷ drop 1 lent) ∷ (0xC1 ∷ 0xC2 ∷ drop 2 lent) ∷ (0xC1 ∷ 0xC2 ∷ 0xC3 ∷ drop 3 lent) ∷ (0xC1 ∷ 0xC2 ∷ 0xC3 ∷ drop 3 lent) ∷ []
  pub front_of_idn :
      room_after 4 (pulse ∷ []) idn named ∷ room_at_end 4 (pulse ∷ []) idn named ∷ [] ≡
      (0x31 ∷ 0x32 ∷ drop 2 lent) ∷ (fifteen ++ 0xEF ∷ replicate 512 0xDD) ∷ []
  -- a malformed piece writes nothing
  pub malformed :
      room_at_end 0 (selected 3) sends (pair 0x8E 0x01) ∷ room_at_end 1 (selected 3) sends (pair 0x8E 0x01) ∷ room_at_end 2 (selected 3) sleep (single 0x04) ∷ [] ≡
      replicate 3 lent

-- Replies by their bytes, and every state before them, by computation.
-- Assumes nothing.
use Prim.Native.Nat.{ℕ}
use native.Mathlib.Omega.{arith}
use mathlib.Core.Path.{◌≡◌, refl}
use mathlib.Core.List.{[], ◌∷◌}
use Rattle.model.specs.declared.Form.{Form}
use Rattle.model.specs.declared.Form.TheVariants.{Counted, Single}
use Rattle.model.specs.Replies.{exactly, counted, waking, single, error}
use Rattle.cases.specs.Awaiting.{ascending}
use Rattle.cases.specs.ByBytes.{Bytes, Related, Taken, fifteen}
use Rattle.cases.specs.Replying.{EveryState, EveryCut, EveryBeginning, Rooms}

pub bytes : Bytes
bytes =
    record {
      first = refl;
      first_of_registers = refl;
      behind_a_result = refl;
      behind_80 = refl;
      behind_a0 = refl;
      behind_c0 = refl;
      behind_00_01 = refl;
      behind_a_code = refl;
      events = refl;
      wakes = refl;
      sourceless = refl;
      sourceless_error = refl;
    }

pub related : Related
related =
    record {
      to_idn_case = exactly 15 fifteen refl;
      to_select_case = exactly 0 [] refl;
      to_send_case = counted 0x80 0x03 (0xC1 ∷ 0xC2 ∷ 0xC3 ∷ []) refl refl (omega arith);
      to_send_long = counted 0xA0 0x01 (ascending 0x31 257) refl refl (omega arith);
      to_send_longest = counted 0xC0 0x10 (ascending 0x31 528) refl refl (omega arith);
      to_idle_case = waking 0xDB 0x08 refl;
      to_read_case = exactly 1 (0x5F ∷ []) refl;
      to_write_case = exactly 0 [] refl;
      to_echo_case = single;
      error = error Counted 0x8E apart refl;
    }
  where
    apart : ◌≡◌ {A = Form} Counted Single → ⊥
    apart same = let z : ◌≡◌ {A = ℕ} 0 1 = cc in omega arith

pub taken : Taken
taken = record { whole = refl; error = refl; wrong = refl; cut = refl }

pub every_state : EveryState
every_state = (
  record { to_idn_case = refl; to_select_2 = refl; to_select_0 = refl; to_idle_case = refl; to_read_case = refl; to_write_case = refl; to_echo_case = refl },
  record { to_idn_case = refl; to_select_2 = refl; to_select_0 = refl; to_idle_case = refl; to_read_case = refl; to_write_case = refl; to_echo_case = refl },
  record { to_idn_case = refl; to_select_2 = refl; to_select_0 = refl; to_idle_case = refl; to_read_case = refl; to_write_case = refl; to_echo_case = refl },
  record { to_send_case = refl },
  record { to_send_case = refl },
)

pub every_cut : EveryCut
every_cut = (record { by_one = refl; by_more = refl }, record { by_one = refl; by_more = refl }, record { send = refl }, record { send = refl })

pub every_beginning : EveryBeginning
every_beginning = (record { idn_begun = refl; others_begun = refl }, record { idn_begun = refl; others_begun = refl }, refl)

pub rooms : Rooms
rooms = record { untouched = refl; front_of_send = refl; front_of_idn = refl; malformed = refl }

-- Document 01, "Replies, by awaited command": which bytes can stand first, second and third in a reply, and how many are taken.
-- Assumes nothing.
use Rattle.std.specs.Prelude.{ℕ, ◌≡◌, true, not, List, [], ◌∷◌, ◌++◌, map, replicate}
use Rattle.model.specs.declared.Awaited.{Awaited}
use Rattle.model.specs.declared.End.TheVariants.{Good, Woken, Error}
use Rattle.model.specs.declared.Verdict.TheVariants.{More}
use Rattle.model.specs.declared.Wake.TheVariants.{Timeout, Tag, IrqIn, SpiSs}
use Rattle.model.specs.Replies.{wake_of, Reply, meaning, reply}
use Rattle.words.specs.Words.{those}
use Rattle.cases.specs.Awaiting.{ascending, index, window, to_idn, to_select, to_send, to_idle, to_read, to_write, to_echo, good, failed, wake_by, waking, is_malformed}
use Rattle.cases.specs.Replies.{codes, bad, AllBad}

-- ---- every byte at each place

-- the bytes that a reply to the awaited command can have behind others
abbrev pub behind : Awaited → List ℕ → List ℕ
behind a xs = those (λ (b : ℕ). not (is_malformed (reply a (xs ++ b ∷ [])).verdict)) 256 []

pub record Bytes : Type 0 where
  pub first :
      map (λ (a : Awaited). behind a []) (to_idn ∷ to_select 0 ∷ to_select 3 ∷ to_send ∷ to_idle 0x03 ∷ to_echo ∷ []) ≡
      (0x00 ∷ codes) ∷ (0x00 ∷ codes) ∷ (0x00 ∷ codes) ∷ (0x80 ∷ codes ++ 0xA0 ∷ 0xC0 ∷ []) ∷ (0x00 ∷ codes) ∷ (0x55 ∷ []) ∷ []
  pub first_of_registers :
      map (λ (a : Awaited). behind a []) (to_read 0x62 ∷ to_read 0x69 ∷ to_write (index 0x00) ∷ to_write (window 0x01 0x58) ∷ []) ≡ replicate 4 (0x00 ∷ codes)
  pub behind_a_result :
      map (λ (a : Awaited). behind a (0x00 ∷ [])) (
      to_idn ∷ to_select 0 ∷ to_select 3 ∷ to_idle 0x03 ∷ to_read 0x62 ∷ to_read 0x69 ∷ to_write (index 0x00) ∷ to_write (window 0x01 0x58) ∷ []) ≡
      (0x0F ∷ []) ∷ (0x00 ∷ []) ∷ (0x00 ∷ []) ∷ (0x01 ∷ []) ∷ (0x01 ∷ []) ∷ (0x01 ∷ []) ∷ (0x00 ∷ []) ∷ (0x00 ∷ []) ∷ []
  -- of SendRecv any length up to 528
  pub behind_80 : behind to_send (0x80 ∷ []) ≡ those (λ (n : ℕ). true) 256 []
  pub behind_a0 : behind to_send (0xA0 ∷ []) ≡ those (λ (n : ℕ). true) 256 []
  pub behind_c0 :
      behind to_send (0xC0 ∷ []) ≡
      0x00 ∷ 0x01 ∷ 0x02 ∷ 0x03 ∷ 0x04 ∷ 0x05 ∷ 0x06 ∷ 0x07 ∷ 0x08 ∷ 0x09 ∷ 0x0A ∷ 0x0B ∷ 0x0C ∷ 0x0D ∷ 0x0E ∷ 0x0F ∷ 0x10 ∷ []
  -- of a register any value
  pub behind_00_01 : map (λ (register : ℕ). behind (to_read register) (0x00 ∷ 0x01 ∷ [])) (0x62 ∷ 0x69 ∷ []) ≡ replicate 2 (those (λ (n : ℕ). true) 256 [])
  pub behind_a_code :
      behind to_idn (0x82 ∷ []) ∷ behind (to_select 0) (0x83 ∷ []) ∷ behind (to_select 3) (0x85 ∷ []) ∷ behind to_send (0x8F ∷ []) ∷
      behind (to_idle 0x03) (0x8D ∷ []) ∷ behind (to_read 0x62) (0x82 ∷ []) ∷ behind (to_read 0x69) (0x86 ∷ []) ∷ behind (to_write (index 0x00)) (0x8F ∷ []) ∷
      behind (to_write (window 0x01 0x58)) (0x83 ∷ []) ∷ [] ≡
      replicate 9 (0x00 ∷ [])
  -- the events of a WU source
  pub events :
      map (λ (source : ℕ). behind (to_idle source) (0x00 ∷ 0x01 ∷ []))
      (0x01 ∷ 0x02 ∷ 0x08 ∷ 0x10 ∷ 0x43 ∷ 0x98 ∷ 0xC9 ∷ 0xDB ∷ 0xE5 ∷ []) ≡
      (0x01 ∷ []) ∷ (0x02 ∷ []) ∷ (0x08 ∷ []) ∷ (0x10 ∷ []) ∷ (0x01 ∷ 0x02 ∷ []) ∷ (0x08 ∷ 0x10 ∷ []) ∷ (0x01 ∷ 0x08 ∷ []) ∷
      (0x01 ∷ 0x02 ∷ 0x08 ∷ 0x10 ∷ []) ∷ (0x01 ∷ []) ∷ []
  -- timeout, tag and IRQ_IN each by its own byte alone
  pub wakes :
      map wake_of (0x00 ∷ 0x01 ∷ 0x02 ∷ 0x03 ∷ 0x07 ∷ 0x08 ∷ 0x09 ∷ 0x10 ∷ []) ≡
      SpiSs ∷ Timeout ∷ Tag ∷ SpiSs ∷ SpiSs ∷ IrqIn ∷ SpiSs ∷ SpiSs ∷ []
  -- the sources that have none: 00 begins no reply, and an error still does
  pub sourceless :
      those (λ (source : ℕ). is_malformed (reply (to_idle source) (0x00 ∷ [])).verdict) 256 [] ≡
      0x00 ∷ 0x04 ∷ 0x20 ∷ 0x24 ∷ 0x40 ∷ 0x44 ∷ 0x60 ∷ 0x64 ∷ 0x80 ∷ 0x84 ∷ 0xA0 ∷ 0xA4 ∷ 0xC0 ∷ 0xC4 ∷ 0xE0 ∷ 0xE4 ∷ []
  pub sourceless_error : behind (to_idle 0xE4) [] ≡ codes

-- ---- replies as the relation has them

-- 15 bytes of IDN, no two alike
abbrev pub fifteen : List ℕ
fifteen = 0x31 ∷ 0x32 ∷ 0x33 ∷ 0x34 ∷ 0x35 ∷ 0x36 ∷ 0x37 ∷ 0x38 ∷ 0x39 ∷ 0x3A ∷ 0x3B ∷ 0x3C ∷ 0x3D ∷ 0x3E ∷ 0x3F ∷ []

pub record Related : Type 0 where
  pub to_idn_case : Reply to_idn (0x00 ∷ 0x0F ∷ fifteen) Good fifteen
  pub to_select_case : Reply (to_select 3) (0x00 ∷ 0x00 ∷ []) Good []
  pub to_send_case : Reply to_send (0x80 ∷ 0x03 ∷ 0xC1 ∷ 0xC2 ∷ 0xC3 ∷ []) Good (0xC1 ∷ 0xC2 ∷ 0xC3 ∷ [])
  pub to_send_long : Reply to_send (0xA0 ∷ 0x01 ∷ ascending 0x31 257) Good (ascending 0x31 257)
  pub to_send_longest : Reply to_send (0xC0 ∷ 0x10 ∷ ascending 0x31 528) Good (ascending 0x31 528)
  pub to_idle_case : Reply (to_idle 0xDB) (0x00 ∷ 0x01 ∷ 0x08 ∷ []) (Woken (wake_by 0x08)) (0x08 ∷ [])
  pub to_read_case : Reply (to_read 0x69) (0x00 ∷ 0x01 ∷ 0x5F ∷ []) Good (0x5F ∷ [])
  pub to_write_case : Reply (to_write (window 0x01 0x58)) (0x00 ∷ 0x00 ∷ []) Good []
  pub to_echo_case : Reply to_echo (0x55 ∷ []) Good []
  pub error : Reply to_send (0x8E ∷ 0x00 ∷ []) (Error 0x8E) []

-- ---- how many bytes are taken

pub record Taken : Type 0 where
  -- through the last byte of the reply, whatever follows
  pub whole :
      reply to_idn (0x00 ∷ 0x0F ∷ fifteen ++ 0x99 ∷ 0x98 ∷ []) ∷ reply (to_select 3) (0x00 ∷ 0x00 ∷ 0x99 ∷ 0x98 ∷ []) ∷
      reply to_send (0x80 ∷ 0x03 ∷ 0xC1 ∷ 0xC2 ∷ 0xC3 ∷ 0x99 ∷ 0x98 ∷ []) ∷ reply to_send (0x80 ∷ 0x00 ∷ 0x99 ∷ 0x98 ∷ []) ∷
      reply (to_idle 0xDB) (0x00 ∷ 0x01 ∷ 0x08 ∷ 0x99 ∷ 0x98 ∷ []) ∷ reply (to_read 0x62) (0x00 ∷ 0x01 ∷ 0xE7 ∷ 0x99 ∷ 0x98 ∷ []) ∷
      reply (to_read 0x69) (0x00 ∷ 0x01 ∷ 0x00 ∷ 0x99 ∷ []) ∷ reply (to_write (index 0x00)) (0x00 ∷ 0x00 ∷ 0x99 ∷ 0x98 ∷ []) ∷
      reply to_echo (0x55 ∷ 0x99 ∷ 0x98 ∷ []) ∷ [] ≡
      meaning good fifteen 17 ∷ meaning good [] 2 ∷
      meaning good (0xC1 ∷ 0xC2 ∷ 0xC3 ∷ []) 5 ∷ meaning good [] 2 ∷
      meaning (waking 0x08) (0x08 ∷ []) 3 ∷ meaning good (0xE7 ∷ []) 3 ∷
      meaning good (0x00 ∷ []) 3 ∷ meaning good [] 2 ∷ meaning good [] 1 ∷ []
  pub error :
      reply to_idn (0x85 ∷ 0x00 ∷ 0x99 ∷ 0x98 ∷ []) ∷ reply (to_select 3) (0x83 ∷ 0x00 ∷ 0x99 ∷ []) ∷ reply to_send (0x8E ∷ 0x00 ∷ 0x99 ∷ []) ∷
      reply (to_idle 0xDB) (0x86 ∷ 0x00 ∷ 0x99 ∷ []) ∷ reply (to_read 0x62) (0x8F ∷ 0x00 ∷ 0x99 ∷ []) ∷
      reply (to_write (window 0x01 0x58)) (0x82 ∷ 0x00 ∷ 0x99 ∷ []) ∷ [] ≡
      meaning (failed 0x85) [] 2 ∷ meaning (failed 0x83) [] 2 ∷ meaning (failed 0x8E) [] 2 ∷ meaning (failed 0x86) [] 2 ∷
      meaning (failed 0x8F) [] 2 ∷ meaning (failed 0x82) [] 2 ∷ []
  -- through the first malformed byte
  pub wrong :
      AllBad (
      bad to_idn (0x84 ∷ 0x00 ∷ 0x99 ∷ []) 0 ∷ bad to_idn (0x85 ∷ 0x85 ∷ 0x99 ∷ []) 1 ∷ bad to_idn (0x00 ∷ 0x10 ∷ 0x99 ∷ []) 1 ∷
      bad (to_select 3) (0x00 ∷ 0x02 ∷ 0x99 ∷ []) 1 ∷ bad to_send (0x81 ∷ 0x00 ∷ 0x99 ∷ []) 0 ∷ bad to_send (0x8E ∷ 0x01 ∷ 0x99 ∷ []) 1 ∷
      bad (to_idle 0xDB) (0x00 ∷ 0x01 ∷ 0x04 ∷ 0x99 ∷ []) 2 ∷ bad to_echo (0x54 ∷ 0x55 ∷ 0x99 ∷ []) 0 ∷
      bad (to_read 0x62) (0x80 ∷ 0x01 ∷ 0x13 ∷ []) 0 ∷ bad (to_read 0x69) (0x00 ∷ 0x02 ∷ 0x13 ∷ 0x14 ∷ []) 1 ∷ bad (to_read 0x69) (0x8F ∷ 0x01 ∷ 0x13 ∷ []) 1 ∷
      bad (to_write (index 0x00)) (0x55 ∷ 0x00 ∷ 0x99 ∷ []) 0 ∷ bad (to_write (index 0x00)) (0x00 ∷ 0x01 ∷ 0x99 ∷ []) 1 ∷
      bad (to_write (window 0x01 0x58)) (0x83 ∷ 0x83 ∷ 0x99 ∷ []) 1 ∷ [])
  -- or all
  pub cut :
      reply to_idn [] ∷ reply to_idn (0x00 ∷ []) ∷ reply to_idn (0x00 ∷ 0x0F ∷ []) ∷ reply to_idn (0x00 ∷ 0x0F ∷ 0x31 ∷ 0x32 ∷ []) ∷ reply to_idn (0x85 ∷ []) ∷
      reply (to_select 3) (0x00 ∷ []) ∷ reply to_send (0x80 ∷ []) ∷ reply to_send (0x80 ∷ 0x03 ∷ 0xC1 ∷ 0xC2 ∷ []) ∷
      reply (to_idle 0xDB) (0x00 ∷ []) ∷ reply (to_idle 0xDB) (0x00 ∷ 0x01 ∷ []) ∷ reply to_echo [] ∷
      reply (to_read 0x69) [] ∷ reply (to_read 0x69) (0x00 ∷ []) ∷ reply (to_read 0x69) (0x00 ∷ 0x01 ∷ []) ∷ reply (to_read 0x69) (0x8F ∷ []) ∷
      reply (to_write (index 0x00)) [] ∷ reply (to_write (index 0x00)) (0x00 ∷ []) ∷ reply (to_write (index 0x00)) (0x83 ∷ []) ∷ [] ≡
      meaning More [] 0 ∷ meaning More [] 1 ∷ meaning More [] 2 ∷ meaning More [] 4 ∷ meaning More [] 1 ∷
      meaning More [] 1 ∷ meaning More [] 1 ∷ meaning More [] 4 ∷
      meaning More [] 1 ∷ meaning More [] 2 ∷ meaning More [] 0 ∷
      meaning More [] 0 ∷ meaning More [] 1 ∷ meaning More [] 2 ∷ meaning More [] 1 ∷
      meaning More [] 0 ∷ meaning More [] 1 ∷ meaning More [] 1 ∷ []

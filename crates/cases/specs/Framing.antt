-- Document 01, "Command frames": frames whose bytes all differ, written and read back, and what the reader refuses beside them.
-- Assumes nothing.
use Rattle.std.specs.Prelude.{ℕ, ◌+◌, ◌*◌, ◌%◌, ◌≡◌, true, false, ◌&&◌, List, [], ◌∷◌, ◌++◌, map, ltb, leb, eqb, replicate, Err, Ok}
use Rattle.model.specs.declared.Interface.TheVariants.{Spi, Uart}
use Rattle.model.specs.declared.Settings.{Settings}
use Rattle.model.specs.declared.Kind.{Kind}
use Rattle.model.specs.declared.Kind.TheVariants.{Idn, ProtocolSelect, Idle, Echo}
use Rattle.model.specs.declared.Refusal.TheVariants.{Short, Invalid}
use Rattle.words.specs.Words.{those}
use Rattle.model.specs.Frames.{Command, idn, protocol_select, send_recv, idle, echo, prescaler, source_allowed, settings_allowed, allowed, permits, send, reset, poll, read, bytes, permitted, write, received, flags, settings, read_command}
use Rattle.cases.specs.Awaiting.{command_of, part_of}
use Rattle.cases.specs.Published.{ran}

-- ---- frames

-- no two of the fourteen data bytes alike
abbrev pub distinct : Settings
distinct =
    record {
      source = 0xDB;
      enter = record { first = 0xA1; second = 0xA2 };
      wake = record { first = 0xA3; second = 0xA4 };
      leave = record { first = 0xA5; second = 0xA6 };
      period = 0xA7;
      osc = 0xA8;
      dac = 0xA9;
      low = 0xAA;
      high = 0xAB;
      swing = 0xAC;
      sleep = 0xAD;
    }

abbrev pub distinct_data : List ℕ
distinct_data = 0xDB ∷ 0xA1 ∷ 0xA2 ∷ 0xA3 ∷ 0xA4 ∷ 0xA5 ∷ 0xA6 ∷ 0xA7 ∷ 0xA8 ∷ 0xA9 ∷ 0xAA ∷ 0xAB ∷ 0xAC ∷ 0xAD ∷ []

-- eight parameters
abbrev pub eight : List ℕ
eight = 0x11 ∷ 0x12 ∷ 0x13 ∷ 0x14 ∷ 0x15 ∷ 0x16 ∷ 0x17 ∷ 0x18 ∷ []

abbrev pub commands : List Command
commands = idn ∷ protocol_select 3 (0x91 ∷ 0x92 ∷ []) ∷ protocol_select 4 eight ∷ send_recv (0x26 ∷ 0x55 ∷ 0x07 ∷ []) ∷ send_recv [] ∷ idle distinct ∷ echo ∷ []

abbrev pub frames : List (List ℕ)
frames =
    (0x01 ∷ 0x00 ∷ []) ∷
    (0x02 ∷ 0x03 ∷ 0x03 ∷ 0x91 ∷ 0x92 ∷ []) ∷
    (0x02 ∷ 0x09 ∷ 0x04 ∷ eight) ∷
    (0x04 ∷ 0x03 ∷ 0x26 ∷ 0x55 ∷ 0x07 ∷ []) ∷
    (0x04 ∷ 0x00 ∷ []) ∷
    (0x07 ∷ 0x0E ∷ distinct_data) ∷
    (0x55 ∷ []) ∷
    []

-- commands have these frames, and these parts of them are the data
pub record FramedSo (commands : List Command) (frames places : List (List ℕ)) : Type 0 where
  pub uart : map (λ (c : Command). bytes Uart (send c)) commands ≡ frames
  pub spi : map (λ (c : Command). bytes Spi (send c)) commands ≡ map (λ (xs : List ℕ). 0x00 ∷ xs) frames
  pub back : map command_of frames ≡ map (λ (c : Command). c ∷ []) commands
  pub parts : map part_of frames ≡ places

pub record Framed : Type 0 where
  -- data stand behind code and length
  pub each :
      FramedSo commands frames
      ((2 ∷ 0 ∷ []) ∷ (2 ∷ 3 ∷ []) ∷ (2 ∷ 9 ∷ []) ∷ (2 ∷ 3 ∷ []) ∷ (2 ∷ 0 ∷ []) ∷ (2 ∷ 14 ∷ []) ∷ (1 ∷ 0 ∷ []) ∷ [])
  pub gathered : settings distinct_data ≡ distinct
  -- data that are not there count as zeros, and no frame has them
  pub missing : settings [] ≡ settings (replicate 14 0)

-- ---- refused by the reader, beside the frames above

-- a length, or a code, and the rest
abbrev pub behind : List ℕ → List ℕ → List (List ℕ)
behind heads rest = map (λ (x : ℕ). x ∷ rest) heads

-- bytes that begin no frame with a length: none of 01, 02, 04, 07, 08 and 09
abbrev pub strange_codes : List ℕ
strange_codes = 0x00 ∷ 0x03 ∷ 0x05 ∷ 0x06 ∷ 0x0A ∷ 0x0B ∷ 0x54 ∷ 0x55 ∷ 0x56 ∷ 0xFF ∷ []

abbrev pub RefusedBeside : Type 0
RefusedBeside =
    map read_command (
    -- the length one down and one up
    (0x01 ∷ 0x01 ∷ []) ∷
    (0x02 ∷ 0x02 ∷ 0x03 ∷ 0x91 ∷ 0x92 ∷ []) ∷ (0x02 ∷ 0x04 ∷ 0x03 ∷ 0x91 ∷ 0x92 ∷ []) ∷
    (0x04 ∷ 0x02 ∷ 0x26 ∷ 0x55 ∷ 0x07 ∷ []) ∷ (0x04 ∷ 0x04 ∷ 0x26 ∷ 0x55 ∷ 0x07 ∷ []) ∷ (0x04 ∷ 0x01 ∷ []) ∷
    (0x07 ∷ 0x0D ∷ distinct_data) ∷ (0x07 ∷ 0x0F ∷ distinct_data) ∷
    -- a byte too few and too many
    (0x01 ∷ 0x00 ∷ 0x00 ∷ []) ∷ (0x01 ∷ []) ∷ (0x55 ∷ 0x00 ∷ []) ∷ (0x04 ∷ []) ∷ (0x07 ∷ []) ∷
    (0x02 ∷ 0x03 ∷ 0x03 ∷ 0x91 ∷ []) ∷ (0x02 ∷ 0x03 ∷ 0x03 ∷ 0x91 ∷ 0x92 ∷ 0x93 ∷ []) ∷
    (0x04 ∷ 0x03 ∷ 0x26 ∷ 0x55 ∷ []) ∷ (0x04 ∷ 0x03 ∷ 0x26 ∷ 0x55 ∷ 0x07 ∷ 0x08 ∷ []) ∷ (0x07 ∷ 0x0E ∷ distinct_data ++ 0xAE ∷ []) ∷
    -- length and data agree on another number than Idle's 14
    (0x07 ∷ 0x0D ∷ 0x01 ∷ replicate 12 0x00) ∷ (0x07 ∷ 0x0F ∷ 0x01 ∷ replicate 14 0x00) ∷ (0x07 ∷ 0x00 ∷ []) ∷ (0x01 ∷ 0x0E ∷ distinct_data) ∷
    -- 55 is a frame by itself alone, and no other byte is
    (0x54 ∷ []) ∷ (0x56 ∷ []) ∷ (0x00 ∷ []) ∷ (0xFF ∷ []) ∷ [])
    ≡ replicate 26 (Err Invalid)

-- the data of IDN, of ProtocolSelect and of Idle behind such a byte; those of registers are tried behind each of 256 (Registers)
abbrev pub RefusedCodes : Type 0
RefusedCodes =
    map read_command (
    behind strange_codes (0x00 ∷ []) ++ behind strange_codes (0x03 ∷ 0x03 ∷ 0x91 ∷ 0x92 ∷ []) ++ behind strange_codes (0x0E ∷ distinct_data))
    ≡ replicate 30 (Err Invalid)

-- ---- the field rules

-- bits 2 and 5 clear, one of bits 0, 1, 3, 4 set, any prescaler: all 256 sources
abbrev pub Sources : Type 0
Sources =
    those source_allowed 256 [] ≡
    0x01 ∷ 0x02 ∷ 0x03 ∷ 0x08 ∷ 0x09 ∷ 0x0A ∷ 0x0B ∷ 0x10 ∷ 0x11 ∷ 0x12 ∷ 0x13 ∷ 0x18 ∷ 0x19 ∷ 0x1A ∷ 0x1B ∷
    0x41 ∷ 0x42 ∷ 0x43 ∷ 0x48 ∷ 0x49 ∷ 0x4A ∷ 0x4B ∷ 0x50 ∷ 0x51 ∷ 0x52 ∷ 0x53 ∷ 0x58 ∷ 0x59 ∷ 0x5A ∷ 0x5B ∷
    0x81 ∷ 0x82 ∷ 0x83 ∷ 0x88 ∷ 0x89 ∷ 0x8A ∷ 0x8B ∷ 0x90 ∷ 0x91 ∷ 0x92 ∷ 0x93 ∷ 0x98 ∷ 0x99 ∷ 0x9A ∷ 0x9B ∷
    0xC1 ∷ 0xC2 ∷ 0xC3 ∷ 0xC8 ∷ 0xC9 ∷ 0xCA ∷ 0xCB ∷ 0xD0 ∷ 0xD1 ∷ 0xD2 ∷ 0xD3 ∷ 0xD8 ∷ 0xD9 ∷ 0xDA ∷ 0xDB ∷ []

-- each prescaler has the 64 sources from 64 times it on
abbrev pub Prescaled : Type 0
Prescaled =
    map (λ (p : ℕ). those (λ (source : ℕ). eqb (prescaler source) p) 256 []) (0 ∷ 1 ∷ 2 ∷ 3 ∷ []) ≡
    map (λ (p : ℕ). those (λ (source : ℕ). leb (64 * p) source && ltb source (64 * p + 64)) 256 []) (0 ∷ 1 ∷ 2 ∷ 3 ∷ [])

-- a WU source with DacDataL and DacDataH, the other bytes as above
abbrev pub levelled : ℕ → ℕ → ℕ → Settings
levelled source low high =
    record {
      source = source;
      enter = distinct.enter;
      wake = distinct.wake;
      leave = distinct.leave;
      period = distinct.period;
      osc = distinct.osc;
      dac = distinct.dac;
      low = low;
      high = high;
      swing = distinct.swing;
      sleep = distinct.sleep;
    }

-- DacDataL below, at and above DacDataH: with the tag alone, among others, and without it
abbrev pub Levels : Type 0
Levels =
    map settings_allowed (
    levelled 0x02 0x63 0x64 ∷ levelled 0x02 0x64 0x64 ∷ levelled 0x02 0x65 0x64 ∷
    levelled 0xDB 0x63 0x64 ∷ levelled 0xDB 0x64 0x64 ∷ levelled 0xDB 0x65 0x64 ∷
    levelled 0xD9 0x63 0x64 ∷ levelled 0xD9 0x64 0x64 ∷ levelled 0xD9 0x65 0x64 ∷
    levelled 0x06 0x63 0x64 ∷ levelled 0x22 0x64 0x64 ∷ levelled 0x00 0x63 0x64 ∷ [])
    ≡ true ∷ true ∷ false ∷ true ∷ true ∷ false ∷ true ∷ true ∷ true ∷ false ∷ false ∷ false ∷ []

-- protocols 0 to 4, 1 to 8 parameters, and up to 255 bytes of data
-- how many data bytes a command takes, of those below 20, where each is 03
abbrev pub lengths : Kind → List ℕ
lengths k = those (λ (n : ℕ). permits k (replicate n 0x03)) 20 []

pub record Fields : Type 0 where
  pub numbers : map lengths (Idn ∷ ProtocolSelect ∷ Idle ∷ Echo ∷ []) ≡ (0 ∷ []) ∷ (2 ∷ 3 ∷ 4 ∷ 5 ∷ 6 ∷ 7 ∷ 8 ∷ 9 ∷ []) ∷ (14 ∷ []) ∷ (0 ∷ []) ∷ []
  pub protocols : those (λ (p : ℕ). allowed (protocol_select p (0x05 ∷ []))) 256 [] ≡ 0 ∷ 1 ∷ 2 ∷ 3 ∷ 4 ∷ []
  pub parameters : those (λ (n : ℕ). allowed (protocol_select 2 (replicate n 0xEE))) 32 [] ≡ 1 ∷ 2 ∷ 3 ∷ 4 ∷ 5 ∷ 6 ∷ 7 ∷ 8 ∷ []
  pub payloads :
      map (λ (n : ℕ). allowed (send_recv (replicate n 0xEE))) (0 ∷ 1 ∷ 254 ∷ 255 ∷ 256 ∷ 257 ∷ []) ≡ true ∷ true ∷ true ∷ true ∷ false ∷ false ∷ []
  pub no_fields : map allowed (idn ∷ echo ∷ idle distinct ∷ idle (levelled 0x04 0 0) ∷ []) ≡ true ∷ true ∷ true ∷ false ∷ []
  pub reads : map (λ (n : ℕ). permitted Spi (read n)) (0 ∷ 1 ∷ 2 ∷ 257 ∷ 258 ∷ 529 ∷ 530 ∷ 531 ∷ []) ≡
      false ∷ true ∷ true ∷ true ∷ true ∷ true ∷ true ∷ false ∷ []
  pub spi : map (permitted Spi) (reset ∷ poll ∷ send echo ∷ send (protocol_select 5 (0x05 ∷ [])) ∷ []) ≡ true ∷ true ∷ true ∷ false ∷ []
  pub uart :
      map (permitted Uart) (reset ∷ poll ∷ read 1 ∷ send echo ∷ send (protocol_select 5 (0x05 ∷ [])) ∷ []) ≡ false ∷ false ∷ false ∷ true ∷ false ∷ []

-- ---- outputs: what stands behind the bytes written

abbrev pub output : List ℕ
output = 0xB0 ∷ 0xB1 ∷ 0xB2 ∷ 0xB3 ∷ 0xB4 ∷ 0xB5 ∷ []

pub record Written-bytes : Type 0 where
  pub uart :
      write Uart (send (send_recv (0x26 ∷ 0x27 ∷ []))) output ≡ ran (Ok 4) (0x04 ∷ 0x02 ∷ 0x26 ∷ 0x27 ∷ 0xB4 ∷ 0xB5 ∷ [])
  pub spi :
      write Spi (send (send_recv (0x26 ∷ 0x27 ∷ []))) output ≡ ran (Ok 5) (0x00 ∷ 0x04 ∷ 0x02 ∷ 0x26 ∷ 0x27 ∷ 0xB5 ∷ [])
  pub filled :
      write Spi (send (send_recv (0x26 ∷ 0x27 ∷ 0x28 ∷ []))) output ≡ ran (Ok 6) (0x00 ∷ 0x04 ∷ 0x03 ∷ 0x26 ∷ 0x27 ∷ 0x28 ∷ [])
  pub too_short : write Spi (send (send_recv (0x26 ∷ 0x27 ∷ 0x28 ∷ 0x29 ∷ []))) output ≡ ran (Err Short) output
  pub not_allowed : write Spi (send (protocol_select 5 (0x26 ∷ []))) output ≡ ran (Err Invalid) output
  pub reset_byte : write Spi reset output ≡ ran (Ok 1) (0x01 ∷ 0xB1 ∷ 0xB2 ∷ 0xB3 ∷ 0xB4 ∷ 0xB5 ∷ [])
  pub poll_bytes : write Spi poll output ≡ ran (Ok 2) (0x03 ∷ 0x03 ∷ 0xB2 ∷ 0xB3 ∷ 0xB4 ∷ 0xB5 ∷ [])
  pub read_bytes : write Spi (read 3) output ≡ ran (Ok 4) (0x02 ∷ 0x00 ∷ 0x00 ∷ 0x00 ∷ 0xB4 ∷ 0xB5 ∷ [])

-- ---- what comes back

pub record Back : Type 0 where
  pub dropped : map received ((0xC0 ∷ 0xC1 ∷ 0xC2 ∷ []) ∷ (0xC0 ∷ []) ∷ [] ∷ []) ≡ (0xC1 ∷ 0xC2 ∷ []) ∷ [] ∷ [] ∷ []
  -- bit 3 and bit 2 of the first 32 flags bytes
  pub can_read :
      those (λ (b : ℕ). (flags b).read) 32 [] ≡
      0x08 ∷ 0x09 ∷ 0x0A ∷ 0x0B ∷ 0x0C ∷ 0x0D ∷ 0x0E ∷ 0x0F ∷ 0x18 ∷ 0x19 ∷ 0x1A ∷ 0x1B ∷ 0x1C ∷ 0x1D ∷ 0x1E ∷ 0x1F ∷ []
  pub can_send :
      those (λ (b : ℕ). (flags b).send) 32 [] ≡
      0x04 ∷ 0x05 ∷ 0x06 ∷ 0x07 ∷ 0x0C ∷ 0x0D ∷ 0x0E ∷ 0x0F ∷ 0x14 ∷ 0x15 ∷ 0x16 ∷ 0x17 ∷ 0x1C ∷ 0x1D ∷ 0x1E ∷ 0x1F ∷ []
  -- and of all 256: bit 3 is set where the remainder by 16 is at least 8, bit 2 where that by 8 is at least 4
  pub can_read_of_all : those (λ (b : ℕ). (flags b).read) 256 [] ≡ those (λ (b : ℕ). leb 8 (b % 16)) 256 []
  pub can_send_of_all : those (λ (b : ℕ). (flags b).send) 256 [] ≡ those (λ (b : ℕ). leb 4 (b % 8)) 256 []

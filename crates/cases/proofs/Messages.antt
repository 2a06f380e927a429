-- Messages of the demo board written and read, by computation.
-- Assumes nothing.
use mathlib.Core.Path.{refl}
use Rattle.cases.specs.Messages.{AsPrinted, Others, ThirdTag, BesideCommands, Errors, BesideAnswers, Carried, Inventoried, Numbered, SmallParts}

pub as_printed : AsPrinted
as_printed =
    record {
      asked = refl;
      answered = refl;
      commands_written = refl;
      answers_written = refl;
      commands_read = refl;
      answers_read = refl;
      commands_back = refl;
      answers_back = refl;
      timeout = refl;
      timeout_written = refl;
      timeout_read = refl;
      all = refl;
    }

pub others : Others
others = refl

pub third_tag : ThirdTag
third_tag = refl

pub beside_commands : BesideCommands
beside_commands =
    record {
      families = refl;
      counts = refl;
      chip_codes = refl;
      board_codes_case = refl;
      exchanged = refl;
      fourths = refl;
      fifths = refl;
      lengths = refl;
      too_few = refl;
    }

pub errors : Errors
errors =
    record {
      table_8 = refl;
      boards = refl;
      chips = refl;
      good = refl;
      told_by_boards = refl;
      told_by_chips = refl;
      bad = refl;
      written = refl;
      unwritten = refl;
      order = refl;
    }

pub beside_answers : BesideAnswers
beside_answers = record { responses = refl; counts = refl; thirds = refl; lengths = refl; names = refl; each_to_its_own = refl; nothing = refl }

pub carried : Carried
carried = record { by_commands = refl; by_answers = refl; levels = refl }

pub inventories : Inventoried
inventories =
    record {
      written = refl;
      whole = refl;
      read = refl;
      back = refl;
      invalid = refl;
      order = refl;
      miscounted = refl;
      whole_tags = refl;
      wrapped = refl;
    }

pub numbered : Numbered
numbered = record { commands = refl; answers = refl; written = refl }

pub small_parts : SmallParts
small_parts = record { framed = refl; numbered = refl; awaited = refl; woken = refl; unended = refl }

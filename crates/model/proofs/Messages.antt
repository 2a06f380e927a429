-- The messages of the demo board: what is written is read back as itself, whatever is read is the message that it names, and all else is malformed.
-- Assumes nothing.
use Rattle.std.specs.Prelude.{Err, None, Ok, Option, Result, Some}
use Prim.Native.Nat.{ℕ, ◌+◌, ◌-◌, ◌*◌, ◌/◌, ◌%◌, ◌≤◌, ◌<◌}
use native.Mathlib.Omega.{arith}
use mathlib.Core.Path.{◌≡◌, refl, sym, ap, ap₂, ◌∙◌, subst}
use mathlib.Core.Bool.{Bool, true, false, ◌&&◌, and-false, true≢false}
use mathlib.Core.List.{List, [], ◌∷◌, ◌++◌, append-nil}
use lib.Dec.{ltb, leb, leb→le, eqb}
use lib.ListN.{length, take, get_or, length-append}
use lib.Seq.{take-length}
use borrow.Author.Tests.{eq-eqb, ne_eqb, eqb-true, leb-true, leb-false, lt-leb, ltb-true, ltb-false}
use Rattle.words.specs.declared.Part.{Part}
use Rattle.model.specs.declared.Kind.{Kind}
use Rattle.model.specs.declared.Form.{Form}
use Rattle.model.specs.declared.Form.TheVariants.{Exactly}
use Rattle.model.specs.declared.Phase.TheVariants.{Begun}
use Rattle.model.specs.declared.Wake.{Wake}
use Rattle.model.specs.declared.End.{End}
use Rattle.model.specs.declared.Step.{Step}
use Rattle.model.specs.declared.Step.TheVariants.{On, Over}
use Rattle.model.specs.declared.Verdict.{Verdict}
use Rattle.model.specs.declared.Verdict.TheVariants.{More, Ended, NoRoom}
use Rattle.model.specs.declared.Message.{Message}
use Rattle.model.specs.declared.Message.TheVariants.{Idn, GetFirmwareVersion, Inventory, GoToTagDetectingState, IsWakeUp, CalibrateTagDetecting}
use Rattle.model.specs.declared.Family.{Family}
use Rattle.model.specs.declared.Family.TheVariants.{Chip, Board}
use Rattle.model.specs.declared.Contents.{Contents}
use Rattle.model.specs.declared.Contents.TheVariants.{Bytes, Level, Tags}
use Rattle.model.specs.declared.MessageRow.{MessageRow}
use Rattle.words.specs.Words.{pick, within}
use Rattle.words.specs.Words.{Bytes as AllBytes}
use Rattle.model.specs.Frames.{bare, framed, frame, part}
use Rattle.model.specs.Replies.{is_error, most_data, wake_of, ReplyBy, Reply, form_of, exactly, counted, waking, single, error, reached, used, verdict_of, reply}
use Rattle.model.specs.Frames.{row as commandRow}
use Rattle.model.specs.Messages.{tag_size, most_tags, row, messages, found_in, named, family_byte, is_board_error, takes, carries, payload, asking, answering, taken, read_message, opened, read_carried, read_error, read_good, read_answer, CommandsBack, OnlyCommands, CommandsElse, awaited_of, by_verdict, read_reply, AnswersBack, ErrorsBack, ChipErrorsBack, IsAnswer, OnlyAnswers, AnswersElse, HandsOn, OfBytes, Orderly, InOrder, OneMessage}
use Rattle.model.specs.Claims.{MeansBy}
use Rattle.words.proofs.Words.{ways}
use Rattle.words.proofs.Contract.{one_answer, one_outcome}
use Rattle.model.proofs.Frames.{both}
use Rattle.model.proofs.Machine.{Bounded, data_all}
use Rattle.model.proofs.Table.{bounded, completes, tabled}
use Rattle.model.specs.declared.AnswerError.TheVariants.{BoardError, ChipError}
use Rattle.model.specs.declared.AnswerError.{AnswerError}

-- ---- the table

-- the most data bytes that an answer has
abbrev most : Contents → ℕ
most (Bytes n) = n
most Level = 1
most Tags = 1 + tag_size * most_tags

-- what a row has is a byte each, and so is every count
abbrev sized : MessageRow → Bool
sized r = ltb (family_byte r.family) 256 && ltb r.code 256 && ltb r.count 256 && ltb r.response 256 && ltb (most r.contents) 256

-- the answer to a command of the chip's is its good reply, of so many data bytes
abbrev Own : Family → MessageRow → Type 0
Own Board r = Unit {0}
Own (Chip kind) r =
    (n : ℕ) × (form_of (awaited_of kind) ≡ Exactly n) × (r.response ≡ 0x00) × (r.contents ≡ Bytes n) × (r.code ≡ (commandRow kind).code)

-- each is found by its code; no code is one that stands alone; no answer begins with an error code of the MCU's
pub record Lawful (m : Message) : Type 0 where
  found : named (row m).code ≡ Some m
  counted : bare (row m).code ≡ false
  answer_counted : bare (row m).response ≡ false
  no_error : is_board_error (row m).response ≡ false
  of_bytes : sized (row m) ≡ true
  own : Own (row m).family (row m)

-- the one lemma that looks at each
lawful : (m : Message) → Lawful m
lawful Idn = record { found = refl; counted = refl; answer_counted = refl; no_error = refl; of_bytes = refl; own = (15, refl, refl, refl, refl) }
lawful GetFirmwareVersion = record { found = refl; counted = refl; answer_counted = refl; no_error = refl; of_bytes = refl; own = tt }
lawful Inventory = record { found = refl; counted = refl; answer_counted = refl; no_error = refl; of_bytes = refl; own = tt }
lawful GoToTagDetectingState = record { found = refl; counted = refl; answer_counted = refl; no_error = refl; of_bytes = refl; own = tt }
lawful IsWakeUp = record { found = refl; counted = refl; answer_counted = refl; no_error = refl; of_bytes = refl; own = tt }
lawful CalibrateTagDetecting = record { found = refl; counted = refl; answer_counted = refl; no_error = refl; of_bytes = refl; own = tt }

-- a message that was found has the code
abbrev Right : ℕ → Option Message → Type 0
Right code (Some m) = (row m).code ≡ code
Right code None = Unit {0}

right : (code : ℕ) (ms : List Message) → Right code (found_in code ms)
right code [] = tt
right code (m ∷ ms) = ways (Right code) (eqb code (row m).code) (λ t. sym (eqb-true code (row m).code t)) (λ _. right code ms)

-- a code with a count behind it
counts : (code : ℕ) (xs : List ℕ) → bare code ≡ false → framed code xs ≡ code ∷ length xs ∷ xs
counts code xs f = ap (λ (b : Bool). pick b (code ∷ xs) (code ∷ length xs ∷ xs)) f

-- ---- command messages

module _ (m : Message) (xs : List ℕ) (h : takes m xs ≡ true) where
  abbrev CommandBack : List ℕ → Type 0
  CommandBack frame = (p : Part) × (read_message (family_byte (row m).family ∷ frame) ≡ Some (m, p)) × (within (family_byte (row m).family ∷ frame) p ≡ xs)

  in_row : taken (named (row m).code) (family_byte (row m).family) xs ≡ Some (m, part 3 (length xs))
  in_row = ap (λ (n : Option Message). taken n (family_byte (row m).family) xs) (lawful m).found ∙ simp (eq-eqb (family_byte (row m).family) (family_byte (row m).family) refl, h)

  pub command_back : CommandBack (framed (row m).code xs)
  command_back =
      subst CommandBack (sym (counts (row m).code xs (lawful m).counted))
      (part 3 (length xs), simp (eq-eqb (length xs) (length xs) refl) in_row, take-length xs)

pub commands_back : CommandsBack
commands_back m xs h = command_back m xs h

-- what is read is the message that it names
abbrev Sound : List ℕ → Option (Message × Part) → Type 0
Sound xs (Some (m, p)) = (takes m (within xs p) ≡ true) × (asking m (within xs p) ≡ xs)
Sound xs None = Unit {0}

module _ (family code n : ℕ) (xs : List ℕ) (e : n ≡ length xs) where
  sound_taken : (found : Option Message) → Right code found → Sound (family ∷ code ∷ n ∷ xs) (taken found family xs)
  sound_taken None r = tt
  sound_taken (Some m) r =
      ways (Sound (family ∷ code ∷ n ∷ xs)) (eqb family (family_byte (row m).family) && takes m xs)
      (λ t.
      let fits = both (eqb family (family_byte (row m).family)) (takes m xs) t in
      let whole : asking m xs ≡ family ∷ code ∷ n ∷ xs =
      ap₂ (λ (f : ℕ) (l : List ℕ). f ∷ l) (sym (eqb-true family (family_byte (row m).family) fits.0))
      (counts (row m).code xs (lawful m).counted ∙ ap₂ (λ (c k : ℕ). c ∷ k ∷ xs) r (sym e)) in
      rw (take-length xs) (fits.1, whole))
      (λ _. tt)

sound : (xs : List ℕ) → Sound xs (read_message xs)
sound [] = tt
sound (family ∷ []) = tt
sound (family ∷ code ∷ []) = tt
sound (family ∷ code ∷ n ∷ xs) =
    ways (Sound (family ∷ code ∷ n ∷ xs)) (eqb n (length xs))
    (λ t. sound_taken family code n xs (eqb-true n (length xs) t) (named code) (right code messages)) (λ _. tt)

pub only_commands : OnlyCommands
only_commands xs m p e = subst (Sound xs) e (sound xs)

pub commands_else : CommandsElse
commands_else xs none = go (read_message xs) (sound xs)
  where
    go : (r : Option (Message × Part)) → Sound xs r → r ≡ None
    go (Some (m, p)) h = absurd (none m (within xs p) h.0 h.1)
    go None h = refl

-- ---- answers of the board's own

-- the MCU's codes are above those that stand alone
error_counted : (code : ℕ) → is_board_error code ≡ true → bare code ≡ false
error_counted code h = go (eqb code 0x55) refl
  where
    go : (b : Bool) → eqb code 0x55 ≡ b → b ≡ false
    go false e = refl
    go true e = absurd (true≢false (sym h ∙ ap is_board_error (eqb-true code 0x55 e)))

pub errors_back : ErrorsBack
errors_back m code h =
    subst (λ (l : List ℕ). read_answer m l ≡ Err (BoardError code)) (sym (counts code [] (error_counted code h))) (simp h)

-- behind code and count, what is carried is found
module _ (response : ℕ) (n : ℕ) where
  abbrev Holds : Contents → List ℕ → List ℕ → Result Part AnswerError → Type 0
  Holds c xs ds r = (p : Part) × (r ≡ Ok p) × (within (response ∷ n ∷ ds) p ≡ xs)

  opened_back : (c : Contents) (xs : List ℕ) → carries c xs ≡ true → Holds c xs (payload c xs) (opened c (payload c xs))
  opened_back (Bytes k) xs h = (part 2 (length xs), simp h, take-length xs)
  opened_back Level xs h = (part 2 (length xs), simp h, take-length xs)
  opened_back Tags xs h = (part 3 (length xs), simp (eq-eqb (length xs / tag_size) (length xs / tag_size) refl, h), take-length xs)

abbrev AnswerBack : Message → List ℕ → List ℕ → Type 0
AnswerBack m xs l = (p : Part) × (read_answer m l ≡ Ok p) × (within l p ≡ xs)

-- an answer that the MCU does not refuse is read by its row
good_back : (m : Message) (xs : List ℕ) (p : Part) → let l = (row m).response ∷ length (payload (row m).contents xs) ∷ payload (row m).contents xs in
    read_good (row m).family (row m) l ≡ Ok p → within l p ≡ xs → AnswerBack m xs (answering m xs)
good_back m xs p e w =
    subst (AnswerBack m xs) (sym (counts (row m).response (payload (row m).contents xs) (lawful m).answer_counted))
    (p, simp (lawful m).no_error e, w)

-- of a command of the board's
carried_back : (m : Message) (xs : List ℕ) → (row m).family ≡ Board → carries (row m).contents xs ≡ true → AnswerBack m xs (answering m xs)
carried_back m xs f h =
    let c = (row m).contents in
    let ds = payload c xs in
    let found = opened_back (row m).response (length ds) c xs h in
    good_back m xs found.0
    (ap (λ (g : Family). read_good g (row m) ((row m).response ∷ length ds ∷ ds)) f
    ∙ simp (eq-eqb (length ds) (length ds) refl, eq-eqb (row m).response (row m).response refl) found.1)
    found.2

-- ---- answers of the chip's own

-- a good reply of n data bytes is read to its end
whole_reply : (n : ℕ) (xs : List ℕ) → length xs ≡ n → n ≤ most_data
    → (reached (Exactly n) (On Begun) (0x00 ∷ n ∷ xs) ≡ Over End.Good) × (used (Exactly n) (On Begun) (0x00 ∷ n ∷ xs) ≡ 2 + n)
whole_reply n [] e few =
    subst (λ (k : ℕ). (reached (Exactly k) (On Begun) (0x00 ∷ k ∷ []) ≡ Over End.Good) × (used (Exactly k) (On Begun) (0x00 ∷ k ∷ []) ≡ 2 + k)) e (refl, refl)
whole_reply n (x ∷ xs) e few =
    let all = data_all (Exactly n) 0 n (x ∷ xs) (omega arith) few (omega arith) in
    simp (eq-eqb n n refl, ne_eqb n 0 (omega arith)) (all.0, omega (arith, all.1))

-- and so it is where a row hands it on
module _ (kind : Kind) (n : ℕ) (xs : List ℕ) (f : form_of (awaited_of kind) ≡ Exactly n) (e : length xs ≡ n) where
  abbrev whole : List ℕ
  whole = 0x00 ∷ n ∷ xs

  abbrev by_form : Form → Result Part AnswerError
  by_form g = by_verdict (verdict_of (reached g (On Begun) whole)) (used g (On Begun) whole) (length whole)

  exact : by_form (Exactly n) ≡ Ok (part 2 n)
  exact =
      let read = whole_reply n xs e (leb→le n most_data (subst Bounded f (bounded (awaited_of kind)))) in
      let fills : used (Exactly n) (On Begun) whole ≡ length whole = omega (arith, read.1) in
      let behind : length whole - 2 ≡ n = omega arith in
      rw (read.0, eq-eqb (used (Exactly n) (On Begun) whole) (length whole) fills) (ap (λ (k : ℕ). Ok (part 2 k)) behind)

  reply_back : read_reply kind whole ≡ Ok (part 2 n)
  reply_back = ap by_form f ∙ exact

handed_back : (m : Message) (kind : Kind) (xs : List ℕ) → (row m).family ≡ Chip kind → Own (Chip kind) (row m) → carries (row m).contents xs ≡ true
    → AnswerBack m xs (answering m xs)
handed_back m kind xs f (n, form, response, contents, _) h =
    let e : length xs ≡ n = eqb-true (length xs) n (subst (λ (c : Contents). carries c xs ≡ true) contents h) in
    let is : (row m).response ∷ length (payload (row m).contents xs) ∷ payload (row m).contents xs ≡ 0x00 ∷ n ∷ xs =
    ap₂ (λ (r : ℕ) (c : Contents). r ∷ length (payload c xs) ∷ payload c xs) response contents ∙ ap (λ (k : ℕ). 0x00 ∷ k ∷ xs) e in
    good_back m xs (part 2 n)
    (ap₂ (λ (g : Family) (l : List ℕ). read_good g (row m) l) f is ∙ reply_back kind n xs form e)
    (ap (λ (l : List ℕ). within l (part 2 n)) is ∙ ap (λ (k : ℕ). take k xs) (sym e) ∙ take-length xs)

pub answers_back : AnswersBack
answers_back m xs h = go (row m).family refl (lawful m).own
  where
    go : (f : Family) → (row m).family ≡ f → Own f (row m) → AnswerBack m xs (answering m xs)
    go (Chip kind) f own = handed_back m kind xs f own h
    go Board f own = carried_back m xs f h

-- ---- whatever is read is the answer that it names

-- what is told is borne out; of what is malformed nothing is told
abbrev Bears : Message → List ℕ → Result Part AnswerError → Type 0
Bears m xs (Ok p) = IsAnswer m xs (Ok p)
Bears m xs (Err (BoardError code)) = IsAnswer m xs (Err (BoardError code))
Bears m xs (Err (ChipError code)) = IsAnswer m xs (Err (ChipError code))
Bears m xs (Err AnswerError.Malformed) = Unit {0}

-- an error code of the MCU's and no data
bears_error : (m : Message) (xs : List ℕ) → is_board_error (get_or xs 0 0) ≡ true → Bears m xs (read_error xs)
bears_error m [] h = tt
bears_error m (code ∷ []) h = tt
bears_error m (code ∷ n ∷ xs) h =
    ways (Bears m (code ∷ n ∷ xs)) (eqb n (length xs) && eqb (length (code ∷ n ∷ xs)) 2)
    (λ t.
    let fits = both (eqb n (length xs)) (eqb (length (code ∷ n ∷ xs)) 2) t in
    (h, counts code [] (error_counted code h) ∙ ap (λ (l : List ℕ). code ∷ l) (alone n xs (eqb-true n (length xs) fits.0) (omega (arith, eqb-true (length (code ∷ n ∷ xs)) 2 fits.1)))))
    (λ _. tt)
  where
    alone : (n : ℕ) (xs : List ℕ) → n ≡ length xs → length xs ≡ 0 → 0 ∷ [] ≡ n ∷ xs
    alone n [] e z = ap (λ (k : ℕ). k ∷ []) (sym e)
    alone n (x ∷ xs) e z = absurd (omega arith)

-- what a row carries behind code and count
module _ (response : ℕ) (f : bare response ≡ false) where
  abbrev Opens : Contents → List ℕ → Result Part AnswerError → Type 0
  Opens c xs (Ok p) = (carries c (within xs p) ≡ true) × (framed response (payload c (within xs p)) ≡ xs)
  Opens c xs (Err (BoardError code)) = ⊥
  Opens c xs (Err (ChipError code)) = ⊥
  Opens c xs (Err AnswerError.Malformed) = Unit {0}

  opens : (c : Contents) (ds : List ℕ) → Opens c (response ∷ length ds ∷ ds) (opened c ds)
  opens (Bytes n) ds =
      ways (Opens (Bytes n) (response ∷ length ds ∷ ds)) (carries (Bytes n) ds) (λ t. rw (take-length ds) (t, counts response ds f)) (λ _. tt)
  opens Level ds = ways (Opens Level (response ∷ length ds ∷ ds)) (carries Level ds) (λ t. rw (take-length ds) (t, counts response ds f)) (λ _. tt)
  opens Tags [] = tt
  opens Tags (k ∷ ts) =
      ways (Opens Tags (response ∷ length (k ∷ ts) ∷ k ∷ ts)) (eqb k (length ts / tag_size))
      (λ s. ways (Opens Tags (response ∷ length (k ∷ ts) ∷ k ∷ ts)) (carries Tags ts)
      (λ t. rw (take-length ts) (t, counts response (length ts / tag_size ∷ ts) f ∙ ap (λ (j : ℕ). response ∷ length (k ∷ ts) ∷ j ∷ ts) (sym (eqb-true k (length ts / tag_size) s))))
      (λ _. tt))
      (λ _. tt)

bears_opened : (m : Message) (xs : List ℕ) (r : Result Part AnswerError) → Opens (row m).response (lawful m).answer_counted (row m).contents xs r → Bears m xs r
bears_opened m xs (Ok p) h = h
bears_opened m xs (Err (BoardError code)) h = absurd h
bears_opened m xs (Err (ChipError code)) h = absurd h
bears_opened m xs (Err AnswerError.Malformed) h = tt

bears_carried : (m : Message) (xs : List ℕ) → Bears m xs (read_carried (row m) xs)
bears_carried m [] = tt
bears_carried m (code ∷ []) = tt
bears_carried m (code ∷ n ∷ ds) =
    ways (Bears m (code ∷ n ∷ ds)) (eqb n (length ds) && eqb code (row m).response)
    (λ t.
    let fits = both (eqb n (length ds)) (eqb code (row m).response) t in
    subst (λ (l : List ℕ). Bears m l (opened (row m).contents ds))
    (ap₂ (λ (c k : ℕ). c ∷ k ∷ ds) (sym (eqb-true code (row m).response fits.1)) (sym (eqb-true n (length ds) fits.0)))
    (bears_opened m ((row m).response ∷ length ds ∷ ds) (opened (row m).contents ds) (opens (row m).response (lawful m).answer_counted (row m).contents ds)))
    (λ _. tt)

-- ---- by the reply table

zero_one : ◌≡◌ {A = ℕ} 0 1 → ⊥
zero_one z = omega arith

no_error_good : (code : ℕ) → ◌≡◌ {A = End} End.Good (End.Error code) → ⊥
no_error_good code e = zero_one cc

no_error_woken : (w : Wake) (code : ℕ) → ◌≡◌ {A = End} (End.Woken w) (End.Error code) → ⊥
no_error_woken w code e = zero_one cc

-- the bytes of the chip's error
error_bytes : {f : Form} {ys : List ℕ} {e : End} {d : List ℕ} → ReplyBy f ys e d → (code : ℕ) → e ≡ End.Error code
    → (ys ≡ code ∷ 0x00 ∷ []) × (is_error code ≡ true) × ReplyBy f ys (End.Error code) []
error_bytes (exactly n d h) code q = absurd (no_error_good code q)
error_bytes (counted c b d r h few) code q = absurd (no_error_good code q)
error_bytes (waking s e h) code q = absurd (no_error_woken (wake_of e) code q)
error_bytes single code q = absurd (no_error_good code q)
error_bytes (error f c ne h) code q =
    let same : c ≡ code = cc in
    (ap (λ (k : ℕ). k ∷ 0x00 ∷ []) same, subst (λ (k : ℕ). is_error k ≡ true) same h, subst (λ (k : ℕ). ReplyBy f (c ∷ 0x00 ∷ []) (End.Error k) []) same (error f c ne h))

-- the other replies of so many data bytes are good
exact_bytes : {f : Form} {ys : List ℕ} {e : End} {d : List ℕ} → ReplyBy f ys e d → (n : ℕ) → f ≡ Exactly n → ((code : ℕ) → e ≡ End.Error code → ⊥)
    → (e ≡ End.Good) × (ds : List ℕ) × (ys ≡ 0x00 ∷ n ∷ ds) × (length ds ≡ n)
exact_bytes (exactly k d h) n q no_error = let same : k ≡ n = cc in (refl, d, ap (λ (j : ℕ). 0x00 ∷ j ∷ d) same, h ∙ same)
exact_bytes (counted c b d r h few) n q no_error = absurd (zero_one cc)
exact_bytes (waking s e h) n q no_error = absurd (zero_one cc)
exact_bytes single n q no_error = absurd (zero_one cc)
exact_bytes (error f c ne h) n q no_error = absurd (no_error c refl)

-- a reply that fills the bytes is all of them
filled : (xs ys zs : List ℕ) → xs ≡ ys ++ zs → length ys ≡ length xs → ys ≡ xs
filled xs ys [] e l = sym (e ∙ append-nil ys)
filled xs ys (z ∷ zs) e l = absurd (omega (arith, ap (λ (us : List ℕ). length us) e, length-append ys (z ∷ zs)))

-- what the reply table says of a command of the chip's
module _ (m : Message) (kind : Kind) (family : (row m).family ≡ Chip kind) (n : ℕ) (form : form_of (awaited_of kind) ≡ Exactly n)
    (response : (row m).response ≡ 0x00) (contents : (row m).contents ≡ Bytes n) where
  -- the data of its good reply stand behind code and count
  carried_so : (ds : List ℕ) → length ds ≡ n → Bears m (0x00 ∷ n ∷ ds) (Ok (part 2 (length (0x00 ∷ n ∷ ds) - 2)))
  carried_so ds l =
      let behind : length (0x00 ∷ n ∷ ds) - 2 ≡ length ds = omega arith in
      let Holds : Contents → ℕ → List ℕ → Type 0 = λ c r ys. (carries c ys ≡ true) × (framed r (payload c ys) ≡ 0x00 ∷ n ∷ ds) in
      subst (λ (k : ℕ). Holds (row m).contents (row m).response (take k ds)) (sym behind)
      (subst (λ (c : Contents). Holds c (row m).response (take (length ds) ds)) (sym contents)
      (subst (λ (r : ℕ). Holds (Bytes n) r (take (length ds) ds)) (sym response)
      (rw (take-length ds) (eq-eqb (length ds) n l, ap (λ (k : ℕ). 0x00 ∷ k ∷ ds) l))))

  bears_verdict : (xs : List ℕ) (v : Verdict) (d : List ℕ) (u : ℕ) → MeansBy v (awaited_of kind) xs d u → Bears m xs (by_verdict v u (length xs))
  bears_verdict xs More d u h = tt
  bears_verdict xs NoRoom d u h = tt
  bears_verdict xs (Ended End.Good) d u (ys, zs, e, l, r) =
      ways (Bears m xs) (eqb u (length xs))
      (λ t.
      let (good, ds, is, long) = exact_bytes r n form no_error_good in
      let whole : 0x00 ∷ n ∷ ds ≡ xs = sym is ∙ filled xs ys zs e (sym l ∙ eqb-true u (length xs) t) in
      subst (λ (us : List ℕ). Bears m us (Ok (part 2 (length us - 2)))) whole (carried_so ds long))
      (λ _. tt)
  bears_verdict xs (Ended (End.Woken w)) d u (ys, zs, e, l, r) =
      let good : End.Woken w ≡ End.Good = (exact_bytes r n form (no_error_woken w)).0 in absurd (zero_one cc)
  bears_verdict xs (Ended (End.Error code)) d u (ys, zs, e, l, r) =
      ways (Bears m xs) (eqb u (length xs))
      (λ t.
      (kind, family, subst (λ (us : List ℕ). Reply (awaited_of kind) us (End.Error code) []) (filled xs ys zs e (sym l ∙ eqb-true u (length xs) t)) (error_bytes r code refl).2))
      (λ _. tt)
  bears_verdict xs (Ended (End.Malformed place b)) d u h = ways (Bears m xs) (eqb u (length xs)) (λ _. tt) (λ _. tt)

  bears_reply : (xs : List ℕ) → Bears m xs (read_reply kind xs)
  bears_reply xs = let a = awaited_of kind in bears_verdict xs (reply a xs).verdict (reply a xs).payload (reply a xs).used (tabled a xs)

bears_good : (m : Message) (xs : List ℕ) → Bears m xs (read_good (row m).family (row m) xs)
bears_good m xs = go (row m).family refl (lawful m).own
  where
    go : (f : Family) → (row m).family ≡ f → Own f (row m) → Bears m xs (read_good f (row m) xs)
    go (Chip kind) f (n, form, response, contents, _) = bears_reply m kind f n form response contents xs
    go Board f own = bears_carried m xs

bears : (m : Message) (xs : List ℕ) → Bears m xs (read_answer m xs)
bears m xs = ways (Bears m xs) (is_board_error (get_or xs 0 0)) (bears_error m xs) (λ _. bears_good m xs)

pub only_answers : OnlyAnswers
only_answers m xs told = go (read_answer m xs) (bears m xs) told
  where
    go : (r : Result Part AnswerError) → Bears m xs r → (r ≡ (Err AnswerError.Malformed) → ⊥) → IsAnswer m xs r
    go (Ok p) h told = h
    go (Err (BoardError code)) h told = h
    go (Err (ChipError code)) h told = h
    go (Err AnswerError.Malformed) h told = told refl

pub answers_else : AnswersElse
answers_else m xs none = go (read_answer m xs) (bears m xs)
  where
    go : (r : Result Part AnswerError) → Bears m xs r → r ≡ Err AnswerError.Malformed
    go (Ok p) h = absurd (none (Ok p) h)
    go (Err (BoardError code)) h = absurd (none (Err (BoardError code)) h)
    go (Err (ChipError code)) h = absurd (none (Err (ChipError code)) h)
    go (Err AnswerError.Malformed) h = refl

-- ---- the chip's error to a command of its own

-- it is below those of the MCU's
error_low : (code : ℕ) → is_error code ≡ true → code ≤ 0x8F
error_low code h = go (leb code 0x8F) refl
  where
    go : (t : Bool) → leb code 0x8F ≡ t → code ≤ 0x8F
    go true t = leb-true code 0x8F t
    go false t =
        let high = leb-false code 0x8F t in
        absurd (true≢false (sym h ∙ simp (ne_eqb code 0x82 (omega arith), ne_eqb code 0x83 (omega arith), lt-leb code 0x8F high, and-false)))

board_error_above : (code n : ℕ) → is_board_error code ≡ true → n < 0xF4 → n < code
board_error_above code n h low = go (leb code n) refl
  where
    go : (t : Bool) → leb code n ≡ t → n < code
    go false t = leb-false code n t
    go true t =
        let below = leb-true code n t in
        absurd (true≢false (sym h ∙ simp (ne_eqb code 0xFE (omega arith), ne_eqb code 0xFD (omega arith), lt-leb 0xF7 code (omega arith), ne_eqb code 0xF5 (omega arith), ne_eqb code 0xF4 (omega arith))))

chip_error : (code : ℕ) → is_error code ≡ true → is_board_error code ≡ false
chip_error code h = go (is_board_error code) refl
  where
    go : (b : Bool) → is_board_error code ≡ b → b ≡ false
    go false e = refl
    go true e = absurd (omega (arith, error_low code h, board_error_above code 0x8F e (omega arith)))

module _ (kind : Kind) (code : ℕ) (xs : List ℕ) (r : Reply (awaited_of kind) xs (End.Error code) []) where
  ended : reached (form_of (awaited_of kind)) (On Begun) xs ≡ Over (End.Error code)
  ended = ap (reached (form_of (awaited_of kind)) (On Begun)) (sym (append-nil xs)) ∙ completes (awaited_of kind) r []

  pub reply_error : read_reply kind xs ≡ Err (ChipError code)
  reply_error =
      let a = awaited_of kind in
      let (ys, _, _, l, again) = subst (λ (v : Verdict). MeansBy v a xs (reply a xs).payload (reply a xs).used) (ap verdict_of ended) (tabled a xs) in
      let two : length ys ≡ 2 = ap (λ (us : List ℕ). length us) (error_bytes again code refl).0 in
      let whole : length xs ≡ 2 = ap (λ (us : List ℕ). length us) (error_bytes r code refl).0 in
      ap (λ (s : Step). by_verdict (verdict_of s) (reply a xs).used (length xs)) ended
      ∙ simp (eq-eqb (reply a xs).used (length xs) (l ∙ two ∙ sym whole))

pub chip_errors_back : ChipErrorsBack
chip_errors_back m kind code xs f r =
    let (is, known, _) = error_bytes r code refl in
    let first : get_or xs 0 0 ≡ code = ap (λ (us : List ℕ). get_or us 0 0) is in
    ap (λ (b : Bool). pick b (read_error xs) (read_good (row m).family (row m) xs)) (ap is_board_error first ∙ chip_error code known)
    ∙ ap (λ (g : Family). read_good g (row m) xs) f
    ∙ reply_error kind code xs r

pub hands_on : HandsOn
hands_on m kind xs f =
    let (_, _, _, _, code) = subst (λ (g : Family). Own g (row m)) f (lawful m).own in
    ap₂ (λ (g : Family) (c : ℕ). family_byte g ∷ framed c xs) f code

-- ---- the writers

pub in_order : InOrder
in_order true xs out =
    ways (Orderly true xs out) (ltb (length out) (length xs))
    (λ t.
    let lt = ltb-true (length out) (length xs) t in
    record {
      invalid = (λ e. absurd (zero_one cc), λ e. absurd (true≢false e));
      short = (λ _. (refl, lt), λ _. refl);
      sent = λ _ le. absurd (omega arith);
      unwritten = λ k e. refl;
    })
    (λ f.
    let le = ltb-false (length out) (length xs) f in
    record {
      invalid = (λ e. absurd (zero_one cc), λ e. absurd (true≢false e));
      short = (λ e. absurd (zero_one cc), λ (_, lt). absurd (omega arith));
      sent = λ _ _. refl;
      unwritten = λ k e. absurd (zero_one cc);
    })
in_order false xs out =
    record {
      invalid = (λ _. refl, λ _. refl);
      short = (λ e. absurd (zero_one cc), λ (e, _). absurd (true≢false (sym e)));
      sent = λ e. absurd (true≢false (sym e));
      unwritten = λ k e. refl;
    }

-- ---- messages are of bytes

-- the columns of a row
pub record Sized (r : MessageRow) : Type 0 where
  family : family_byte r.family < 256
  code : r.code < 256
  count : r.count < 256
  response : r.response < 256
  carried : most r.contents < 256

columns : (m : Message) → Sized (row m)
columns m =
    let r = row m in
    let f = ltb (family_byte r.family) 256 in
    let c = ltb r.code 256 in
    let n = ltb r.count 256 in
    let a = ltb r.response 256 in
    let (four, carried) = both (f && c && n && a) (ltb (most r.contents) 256) (lawful m).of_bytes in
    let (three, response) = both (f && c && n) a four in
    let (two, count) = both (f && c) n three in
    let (family, code) = both f c two in
    record {
      family = ltb-true (family_byte r.family) 256 family;
      code = ltb-true r.code 256 code;
      count = ltb-true r.count 256 count;
      response = ltb-true r.response 256 response;
      carried = ltb-true (most r.contents) 256 carried;
    }

-- no more tags than a count can tell
pub most_tags_lem : (xs : List ℕ) → carries Tags xs ≡ true → length xs ≤ tag_size * most_tags
most_tags_lem xs h = leb-true (length xs) (tag_size * most_tags) (both (eqb (length xs % tag_size) 0) (leb (length xs) (tag_size * most_tags)) h).1

counted_payload : (c : Contents) (xs : List ℕ) → carries c xs ≡ true → length (payload c xs) ≤ most c
counted_payload (Bytes n) xs h = omega (arith, eqb-true (length xs) n h)
counted_payload Level xs h = omega (arith, eqb-true (length xs) 1 (both (eqb (length xs) 1) (leb (get_or xs 0 0) 1) h).0)
counted_payload Tags xs h = omega (arith, most_tags_lem xs h)

pub few_asked : (m : Message) (xs : List ℕ) → takes m xs ≡ true → length xs ≤ 255
few_asked m xs h = omega (arith, (columns m).count, eqb-true (length xs) (row m).count h)

pub few_carried : (m : Message) (xs : List ℕ) → carries (row m).contents xs ≡ true → length (payload (row m).contents xs) ≤ 255
few_carried m xs h = omega (arith, (columns m).carried, counted_payload (row m).contents xs h)

payload_bytes : (c : Contents) (xs : List ℕ) → carries c xs ≡ true → AllBytes xs → AllBytes (payload c xs)
payload_bytes (Bytes n) xs h b = b
payload_bytes Level xs h b = b
payload_bytes Tags xs h b = (omega (arith, most_tags_lem xs h), b)

board_error_byte : (code : ℕ) → is_board_error code ≡ true → code < 256
board_error_byte code h = go (ltb code 256) refl
  where
    go : (t : Bool) → ltb code 256 ≡ t → code < 256
    go true t = ltb-true code 256 t
    go false t =
        let high = ltb-false code 256 t in
        absurd (true≢false (sym h ∙ simp (ne_eqb code 0xFE (omega arith), ne_eqb code 0xFD (omega arith), lt-leb code 0xFA (omega arith), and-false, ne_eqb code 0xF5 (omega arith), ne_eqb code 0xF4 (omega arith))))

pub of_bytes : OfBytes
of_bytes =
    record {
      commands = λ m xs h b.
          ((columns m).family, subst AllBytes (sym (counts (row m).code xs (lawful m).counted)) ((columns m).code, (omega (arith, few_asked m xs h), b)));
      answers = λ m xs h b.
          subst AllBytes (sym (counts (row m).response (payload (row m).contents xs) (lawful m).answer_counted))
          ((columns m).response, (omega (arith, few_carried m xs h), payload_bytes (row m).contents xs h b));
      errors = λ code h. subst AllBytes (sym (counts code [] (error_counted code h))) (board_error_byte code h, (omega arith, tt));
    }

-- ---- one outcome

pub one_message : OneMessage
one_message =
    record {
      writes_command = λ m xs out. one_outcome _;
      writes_answer = λ m xs out. one_outcome _;
      writes_error = λ code out. one_outcome _;
      reads_message = λ xs. one_answer _;
      reads_answer = λ m xs. one_answer _;
    }

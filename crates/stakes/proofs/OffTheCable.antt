-- A stake is read off the bytes that the chip sent: they are 80, 0D and its thirteen bytes, under any cutting.
-- Assumes nothing.
use Prim.Native.Nat.{ℕ}
use native.Mathlib.Omega.{arith}
use mathlib.Core.Path.{◌≡◌, refl, sym, ap, ap₂, ◌∙◌, subst}
use mathlib.Core.Bool.{Bool, true, false, true≢false}
use mathlib.Core.Logic.{inl, inr}
use mathlib.Core.List.{List, ◌∷◌, ◌++◌}
use lib.ListN.{length, get_or, take, drop}
use lib.Seq.{take_at}
use Rattle.model.specs.declared.Kind.{Kind}
use Rattle.model.specs.declared.Kind.TheVariants.{SendRecv}
use Rattle.model.specs.declared.Awaited.{Awaited}
use Rattle.model.specs.declared.Form.{Form}
use Rattle.model.specs.declared.Form.TheVariants.{Exactly, Counted, Awake, Single}
use Rattle.model.specs.declared.End.{End}
use Rattle.model.specs.declared.End.TheVariants.{Good, Woken, Error, Malformed}
use Rattle.model.specs.declared.Phase.TheVariants.{Begun}
use Rattle.model.specs.declared.Step.TheVariants.{On}
use Rattle.model.specs.declared.Verdict.{Verdict}
use Rattle.model.specs.declared.Verdict.TheVariants.{More, Ended, NoRoom}
use Rattle.model.specs.declared.Answer.{Answer}
use Rattle.model.specs.declared.Outcome.{Outcome}
use Rattle.words.specs.Contract.{Ran}
use Rattle.model.specs.Refusals.{Number, none, number}
use Rattle.model.specs.Replies.{is_received, data_length, form, form_of, ReplyBy, exactly, counted, waking, single, error, Reply, reached, verdict_of, Meaning, reply}
use Rattle.model.specs.Session.{is_running, feed, step}
use Rattle.model.specs.History.{Exchange}
use Rattle.model.specs.Claims.{MeansBy}
use Rattle.model.specs.Feeding.{Said, Read}
use Rattle.model.proofs.Table.{received_each, completes, tabled}
use Rattle.model.proofs.Feeding.{reads}
use Rattle.stakes.specs.declared.Stake.{Stake}
use Rattle.stakes.specs.Stakes.{together}
use Rattle.stakes.specs.Stakes.{read as readStake}
use Rattle.stakes.specs.Claims.{Closed, handed_out, Reads, Begins, ReadOff}
use Rattle.stakes.proofs.Whole.{put_together}

-- ---- a good answer is a good reply

abbrev is_good : Answer → Bool
is_good Answer.Done = false
is_good (Answer.Sent n) = false
is_good Answer.More = false
is_good Answer.Good = true
is_good (Answer.Woken w) = false
is_good (Answer.Reference r n) = false
is_good (Answer.Refused k) = false

abbrev is_none : Number → Bool
is_none none = true
is_none (number n) = false

good_end : (v : Verdict) (running : Bool) → Said v running Answer.Good → v ≡ Ended Good
good_end More running e = absurd (true≢false (ap is_good e))
good_end (Ended Good) running e = refl
good_end (Ended (Woken w)) running (inl e) = absurd (true≢false (ap is_good e))
good_end (Ended (Woken w)) running (inr e) = absurd e.1.1
good_end (Ended (Error code)) running e = absurd (true≢false (ap is_none e.0))
good_end (Ended (Malformed place b)) running e = absurd (true≢false (ap is_none e))
good_end NoRoom running e = absurd e

-- ---- a good reply to SendRecv

-- a result code, a byte, and as many data as they tell
pub record Shaped (fed payload : List ℕ) : Type 0 where
  pub code : ℕ
  pub count : ℕ
  pub more : List ℕ
  pub whole : fed ≡ code ∷ count ∷ (payload ++ more)
  pub received : is_received code ≡ true
  pub counted_so : length payload ≡ data_length code count

abbrev is_counted : Form → Bool
is_counted (Exactly n) = false
is_counted Counted = true
is_counted (Awake source) = false
is_counted Single = false

abbrev is_good_end : End → Bool
is_good_end Good = true
is_good_end (Woken w) = false
is_good_end (Error code) = false
is_good_end (Malformed place b) = false

shaped_by : {f : Form} {ys : List ℕ} {e : End} {payload : List ℕ} → f ≡ Counted → e ≡ Good → ReplyBy f ys e payload → (fed more : List ℕ) → fed ≡ ys ++ more → Shaped fed payload
shaped_by f g (exactly n d h) fed more e = absurd (true≢false (sym (ap is_counted f)))
shaped_by f g (counted code b d r h few) fed more e = record { code = code; count = b; more = more; whole = e; received = r; counted_so = h }
shaped_by f g (waking s v h) fed more e = absurd (true≢false (sym (ap is_counted f)))
shaped_by f g single fed more e = absurd (true≢false (sym (ap is_counted f)))
shaped_by f g (error form code ne h) fed more e = absurd (true≢false (sym (ap is_good_end g)))

module _ (a : Awaited) (kind : a.kind ≡ SendRecv) (fed : List ℕ) where
  is_counted_lem : form_of a ≡ Counted
  is_counted_lem = ap (λ (k : Kind). form k a.first) kind

  shaped : (reply a fed).verdict ≡ Ended Good → Shaped fed (reply a fed).payload
  shaped v =
      let m = subst (λ (w : Verdict). MeansBy w a fed (reply a fed).payload (reply a fed).used) v (tabled a fed) in
      shaped_by is_counted_lem refl m.4 fed m.1 m.2

-- ---- with a stake's data

-- thirteen data have 80 and 0D before them
thirteen : (code : ℕ) → is_received code ≡ true → (count : ℕ) → 13 ≡ data_length code count → (code ≡ 0x80) × (count ≡ 0x0D)
thirteen =
    received_each (λ (code : ℕ). (count : ℕ) → 13 ≡ data_length code count → (code ≡ 0x80) × (count ≡ 0x0D))
    (λ count e. (refl, omega (arith, e))) (λ count e. absurd (omega (arith, e))) (λ count e. absurd (omega (arith, e)))

begins : (fed : List ℕ) (s : Stake) → Shaped fed (together s) → Begins fed s
begins fed s h =
    let (at, n) = thirteen h.code h.received h.count h.counted_so in
    (h.more, h.whole ∙ ap₂ (λ (x y : ℕ). x ∷ y ∷ (together s ++ h.more)) at n)

-- and behind these two bytes stand no other data
only : (fed payload : List ℕ) (s : Stake) → Shaped fed payload → Begins fed s → payload ≡ together s
only fed payload s h (more, e) =
    let same = sym h.whole ∙ e in
    let long : length payload ≡ 13 = h.counted_so ∙ ap₂ data_length (ap (λ (xs : List ℕ). get_or xs 0 0) same) (ap (λ (xs : List ℕ). get_or xs 1 0) same) in
    sym (take_at payload h.more 13 long) ∙ ap (λ (xs : List ℕ). take 13 (drop 2 xs)) same

completed : (a : Awaited) → a.kind ≡ SendRecv → (fed : List ℕ) (s : Stake) → Begins fed s → (reply a fed).verdict ≡ Ended Good
completed a kind fed s (more, e) =
    let whole : Reply a (0x80 ∷ 0x0D ∷ together s) Good (together s) =
    subst (λ (f : Form). ReplyBy f (0x80 ∷ 0x0D ∷ together s) Good (together s)) (sym (is_counted_lem a kind fed)) (counted 0x80 0x0D (together s) refl refl (omega arith)) in
    ap verdict_of (ap (reached (form_of a) (On Begun)) e ∙ completes a whole more)

-- ---- at the session

module _ (x : Exchange) (kind : x.awaited.kind ≡ SendRecv) (piece room : List ℕ) (running : Bool) (o : Ran Outcome) (s : Stake) where
  abbrev fed : List ℕ
  fed = x.bytes ++ piece

  abbrev means : Meaning
  means = reply x.awaited fed

  sent_so : Read means running x.bytes piece room o → Reads piece o s → Begins fed s × Closed s × (s.status ≡ 0)
  sent_so heard (good, taken) =
      let whole = (put_together (handed_out piece o) s).0 taken in
      let ended = good_end means.verdict running (subst (Said means.verdict running) good heard.said) in
      (begins fed s (subst (Shaped fed) (sym heard.handed_out ∙ sym whole.0) (shaped x.awaited kind fed ended)), whole.1, whole.2)

  read_so : Read means running x.bytes piece room o → Begins fed s × Closed s × (s.status ≡ 0) → Reads piece o s
  read_so heard (begun, closed, zero) =
      let ended = completed x.awaited kind fed s begun in
      let payload = only fed means.payload s (shaped x.awaited kind fed ended) begun in (
        subst (λ (v : Verdict). Said v running o.answer.answer) ended heard.said,
        ap readStake (heard.handed_out ∙ payload) ∙ (put_together (together s) s).1 (refl, closed, zero),
      )

pub read_off : ReadOff
read_off r at waits x es e kind b bs room big front s =
    let heard = reads r at waits x es e b bs room big front in
    let running = is_running r.session.calibration in
    let o = step r.session (feed (b ∷ bs) room) in
    (sent_so x kind (b ∷ bs) room running o s heard, read_so x kind (b ∷ bs) room running o s heard)

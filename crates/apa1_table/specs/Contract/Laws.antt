-- The cases of a call's outcome, and what each makes of the contract.
-- Assumes nothing.
use Rattle.std.specs.Prelude.{ℕ, ◌≤◌, ◌<◌, Bool, false, ◌≡◌, List, eqb, ℤ, length, Result, Ok, Err}
use Rattle.std.proofs.Common.{ap, sym, ◌∙◌, arith, rules, eq-eqb, ne_eqb, eqb-true}
use Rattle.answer.specs.declared.Answer.{Answer}
use Rattle.answer.specs.declared.Refusal.{Refusal}
use Rattle.answer.specs.declared.Refusal.TheVariants.{Columns}
use Rattle.answer.specs.Outcome.{Outcome, accepted, refused, success, refusal, no_room, Gives, found_of, itself, filled}
use Rattle.answer.specs.Outcome.Laws.{accepted_refused, cond_accepted, answer_fits, answer_long, answer_refused, filled_long, filled_refused, Counted, found_count, not_found, gives_refused, gives_not, gives_short, gives_full, gives_zero}
use Rattle.answer.specs.declared.Refused.{Refused}
use Rattle.records.specs.Writing.{Fits, Puts}
use Rattle.records.proofs.Writing.{puts_filled}
use Rattle.apa1_table.specs.Table.{Row, decode, rows, encode}
use Rattle.apa1_table.specs.Table.Setting.{decode_lax}
use Rattle.apa1_table.specs.Contract.{offset_of, addend_of, decoding, Filled, Reads, encoding, Writes}
use Rattle.apa1_table.specs.Inner.{Fillable, Measures}

-- ---- reading
module _ (strict : Bool) (s : List ℕ) (m k : ℕ) where
  read_uneven : (m ≡ k → ⊥) → decoding strict s m k ≡ refused Columns 0
  unfolding decoding
  read_uneven h = rw (ne_eqb m k h)

  pub read_plain : m ≡ k → decoding strict s m k ≡ decode strict s
  unfolding decoding
  read_plain h = rw (eq-eqb m k h)

  pub read_accepted : {l : List Row} → decoding strict s m k ≡ accepted l → (m ≡ k) × (decode strict s ≡ accepted l)
  unfolding decoding
  read_accepted e = let (t, f) = cond_accepted (eqb m k) (decode strict s) Columns 0 e in (eqb-true m k t, f)

-- the columns stay as they are
module _ {o : Outcome (List Row)} (os : List ℕ) (us : List ℤ) where
  kept_refused : {why : Refusal} {p : ℕ} → o ≡ refused why p → Filled o os us os us
  kept_refused e = record { offsets = sym (filled_refused offset_of os e); addends = sym (filled_refused addend_of us e) }

  kept_long : {k : ℕ} → Counted o k → length os < k → length os ≡ length us → Filled o os us os us
  kept_long c h same = record { offsets = sym (filled_long offset_of os c h); addends = sym (filled_long addend_of us c (omega arith)) }

module _ (strict : Bool) (s os : List ℕ) (us : List ℤ) where
  refuses : {r : Answer} {why : Refusal} {p : ℕ} → r ≡ refusal why p → decoding strict s (length os) (length us) ≡ refused why p → Reads strict s os us r os us
  refuses a e = record { answer = a ∙ sym (answer_refused (length os) e); columns = kept_refused os us e }

  pub reads_uneven : {r : Answer} → r ≡ refusal Columns 0 → (length os ≡ length us → ⊥) → Reads strict s os us r os us
  reads_uneven a h = refuses a (read_uneven strict s (length os) (length us) h)

  -- f is what the first pass found
  module _ {f : Result ℕ Refused} (is : f ≡ found_of (decode strict s)) (same : length os ≡ length us) where
    plain : decoding strict s (length os) (length us) ≡ decode strict s
    plain = read_plain strict s (length os) (length us) same

    pub reads_not : {r : Answer} {e : Refused} → f ≡ Err e → r ≡ refusal e.why e.place → Reads strict s os us r os us
    reads_not g a = refuses a (plain ∙ not_found (decode strict s) (sym is ∙ g))

    module _ {k : ℕ} (g : f ≡ Ok k) where
      all : Counted (decode strict s) k
      all = found_count (decode strict s) (sym is ∙ g)

      pub reads_long : {r : Answer} → r ≡ no_room k → length os < k → Reads strict s os us r os us
      reads_long a h = let p = plain in record { answer = a ∙ rw p (sym (answer_long (length os) all h)); columns = rw p (kept_long os us all h same) }

      -- the second pass is lax: what the first accepted is the same list so
      pub fillable : k ≤ length os → Fillable (decode false s) os us
      fillable h = record { fitting = record { list = all.list; is = decode_lax strict s all.is ∙ all.is; fits = omega (arith, all.long) }; same = same }

      pub reads_full : {r : Answer} {os' : List ℕ} {us' : List ℤ} → r ≡ success k → k ≤ length os → Filled (decode false s) os us os' us' → Reads strict s os us r os' us'
      reads_full a h d = let p = plain ∙ sym (decode_lax strict s all.is) in let c = all in record { answer = a ∙ rw plain (sym (answer_fits (length os) c h)); columns = rw p d }

pub ruleset reading = (reads_uneven, reads_not, reads_long, fillable, reads_full, rules)

-- ---- writing
module _ (os : List ℕ) (us : List ℤ) where
  pub write_uneven : (length os ≡ length us → ⊥) → encoding os us ≡ refused Columns 0
  unfolding encoding
  write_uneven h = rw (ne_eqb (length os) (length us) h)

  pub write_plain : length os ≡ length us → encoding os us ≡ encode (rows os us)
  unfolding encoding
  write_plain h = rw (eq-eqb (length os) (length us) h)

  pub write_accepted : {b : List ℕ} → encoding os us ≡ accepted b → (length os ≡ length us) × (encode (rows os us) ≡ accepted b)
  unfolding encoding
  write_accepted e = let (t, f) = cond_accepted (eqb (length os) (length us)) (encode (rows os us)) Columns 0 e in (eqb-true (length os) (length us) t, f)

  module _ (old : List ℕ) where
    pub writes_uneven : {r : Answer} → r ≡ refusal Columns 0 → (length os ≡ length us → ⊥) → Writes os us old r old
    writes_uneven a h =
        let e = write_uneven h in
        let g = gives_refused old a e in
        record { gives = g; back = λ strict z. absurd (accepted_refused (gives_zero g z) e) }

    module _ {f : Result ℕ Refused} (m : Measures os us f) (same : length os ≡ length us) where
      found_is : f ≡ found_of (encoding os us)
      found_is = m.found ∙ ap found_of (sym (write_plain same))

      -- what a write gives reads back
      wrote : {r : Answer} {new : List ℕ} → Gives (encoding os us) old r new → Writes os us old r new
      wrote g = record { gives = g; back = λ strict z. m.back strict _ (sym (write_plain same) ∙ gives_zero g z) }

      pub writes_not : {r : Answer} {e : Refused} → f ≡ Err e → r ≡ refusal e.why e.place → Writes os us old r old
      writes_not e a = wrote (gives_not old found_is e a)

      module _ {k : ℕ} (e : f ≡ Ok k) where
        pub writes_long : {r : Answer} → r ≡ no_room k → length old < k → Writes os us old r old
        writes_long a h = wrote (gives_short old found_is e h a)

        module _ (h : k ≤ length old) where
          -- the bytes that the first pass found_count, and room for them
          pub room : Fits (encode (rows os us)) old 0
          room = let c = found_count (encode (rows os us)) (sym m.found ∙ e) in record { list = c.list; is = c.is; room = omega (arith, c.long) }

          pub writes_full : {r : Answer} {new : List ℕ} → r ≡ success k → Puts (encode (rows os us)) old new 0 → Writes os us old r new
          writes_full a d = wrote (gives_full old found_is e h (puts_filled room d ∙ ap (λ (o : Outcome (List ℕ)). filled itself o old) (sym (write_plain same))) a)

pub ruleset writing = (writes_uneven, writes_not, writes_long, room, writes_full, rules)

-- Document 02, §6, as theorems about the calls that read numbers:
--   KIND-lax     lax reading answers as before: a lax call meets the contract from before (specs/Lax.antt)
--   KIND-strict  strict reading answers as lax reading does, and leaves the same in the columns, unless it refuses: with 18, and then at its place
--                begins a number longer than its shortest form; RELLEB also with 19, and then there begins an addend's difference of 0
-- That the writers meet the strict setting is KIND-back of Demands.antt, which is over the setting.
-- Assumes nothing.
use mathlib.Core.Bool.{Bool, true, false, cond}
use mathlib.Core.List.{List}
use mathlib.Core.Logic.{◌⊎◌, inl, inr}
use mathlib.Core.Path.{◌≡◌, refl, sym, ap, ◌∙◌, subst}
use Prim.Native.Nat.{ℕ}
use lib.Dec.{leb, eqb}
use lib.IntN.{ℤ, pos, negsuc}
use lib.ListN.{length}
use Rattle.answer.specs.declared.Answer.{Answer}
use Rattle.answer.specs.declared.Refusal.{Refusal}
use Rattle.answer.specs.declared.Refusal.TheVariants.{Limit, Identifier, Space, Columns}
use Rattle.answer.specs.Outcome.{Outcome, refused, number_of, input_limit, refusal, answer_in, filled, itself, Gives}
use Rattle.answer.specs.Outcome.Laws.{answer_refused, filled_refused}
use Rattle.answer.specs.Said.{Said}
use Rattle.answer.specs.Unless.{Unless, same, but, unless_then, unless_cond, unless_map}
use Rattle.leb128.specs.Number.{lax_unsigned, lax_signed, read_unsigned, read_signed}
use Rattle.leb128.specs.Longer.{LongerUnsigned, LongerSigned}
use Rattle.leb128.proofs.Setting.{lax_unsigned_law, lax_signed_law}
use Rattle.std.specs.Prelude.{Option}
use Rattle.word.specs.declared.Size.{Size}
use Rattle.std.specs.Prelude.{Some, None}
use Rattle.word.specs.Class.{width_of, class_of, in_class}
use Rattle.records.specs.Identifier.{starts_with}
use Rattle.records.specs.Reading.{none}
use Rattle.records.proofs.Unless.{unless_records, unless_counted}
use Rattle.apr1_table.specs.Table as apr1
use Rattle.apr1_table.specs.Table.Setting as apr1-setting
use Rattle.apr1_table.specs.Contract as apr1-contract
use Rattle.apa1_table.specs.Table as apa1
use Rattle.apa1_table.specs.Table.Setting as apa1-setting
use Rattle.apa1_table.specs.Contract as apa1-contract
use Rattle.relleb_table.specs.Table as relleb
use Rattle.relleb_table.specs.Table.Setting as relleb-setting
use Rattle.relleb_table.specs.Contract as relleb-contract
use Rattle.demands.specs.Lax.{pair_first, pair_at, with_first, with_count, apr1_decode, Apr1Reads, row_first, row_at, count_of, apa1_decode, apa1_decoding, Apa1Reads, with_addend, with_symbol, with_type, with_offset, record_at, relleb_decode, relleb_decoding, RellebReads}
use Rattle.std.specs.Prelude.{Ok, Err}
use Rattle.answer.specs.Outcome.{err_at}
use Rattle.leb128.specs.Number.{Unsigned, Signed}

-- of no refusal
abbrev Never : Said
Never why p = ⊥

never : {X : Type 0} {bad : Refusal → ℕ → X} {x y : X} → Unless bad Never x y → x ≡ y
never (same e) = e
never (but why p e h) = absurd h

-- ---- APR1
module _ (s : List ℕ) where
  first_lax : (at x : ℕ) (u : Unsigned) → Unless none Never (apr1.first_of false s at x u) (pair_first s at x u)
  unfolding apr1.first_of pair_first
  first_lax at x (Ok (c, next)) = same (ap (apr1.second_of at x c) (lax_unsigned_law 32 s next))
  first_lax at x (Err e) = same refl

  pair_lax : (at x : ℕ) → Unless none Never (apr1.step_at false s at x) (pair_at s at x)
  unfolding apr1.step_at apr1.first_of pair_at
  pair_lax at x =
      unless_then err_at none Never (apr1.first_of false s at x) (pair_first s at x) (λ why p. refl) (first_lax at x) (read_unsigned false 32 s at) (lax_unsigned 32 s at) (same (lax_unsigned_law 32 s at))

  offset_lax : (n at : ℕ) (u : Unsigned) → Unless refused Never (apr1.with_first false s n at u) (with_first s n at u)
  unfolding apr1.with_first with_first
  offset_lax n at (Ok (a, past)) =
      same (ap (λ (o : Outcome (List apr1.Pair)). cond (leb a apr1.last) (apr1.joined a o) (refused Space at)) (never (unless_records Never (apr1.step_at false s) (pair_at s) (length s) pair_lax n past a)))
  offset_lax n at (Err e) = same refl

  count_lax : (u : Unsigned) → Unless refused Never (apr1.with_count false s u) (with_count s u)
  unfolding apr1.with_count apr1.with_first with_count
  count_lax (Ok (n, next)) =
      unless_then err_at refused Never (apr1.with_first false s n next) (with_first s n next) (λ why p. refl) (offset_lax n next) (read_unsigned false 32 s next) (lax_unsigned 32 s next) (same (lax_unsigned_law 32 s next))
  count_lax (Err e) = same refl

  apr1_before : apr1.decode false s ≡ apr1_decode s
  unfolding apr1.decode apr1.parse apr1.with_count apr1_decode
  apr1_before =
      let at = length apr1.identifier in
      ap (λ (o : Outcome (List ℕ)). cond (leb (length s) input_limit) (cond (starts_with apr1.identifier s) o (refused Identifier 0)) (refused Limit 0))
      (never (unless_then err_at refused Never (apr1.with_count false s) (with_count s) (λ why p. refl) count_lax (read_unsigned false 32 s at) (lax_unsigned 32 s at) (same (lax_unsigned_law 32 s at))))

  pub apr1_lax : {column new : List ℕ} {r : Answer} → apr1-contract.Reads false s column r new → Apr1Reads s column r new
  apr1_lax {column} {new} {r} d = subst (λ (o : Outcome (List ℕ)). Gives o column r new) apr1_before d

-- ---- APA1
module _ (s : List ℕ) where
  second_lax : (prev : apa1.Row) (u : Signed) → Unless none Never (apa1.first_of false s prev u) (row_first s prev u)
  unfolding apa1.first_of row_first
  second_lax prev (Ok (d, next)) = same (ap (apa1.second_of prev d) (lax_signed_law 64 s next))
  second_lax prev (Err e) = same refl

  row_lax : (at : ℕ) (prev : apa1.Row) → Unless none Never (apa1.step_at false s at prev) (row_at s at prev)
  unfolding apa1.step_at apa1.first_of row_at
  row_lax at prev =
      unless_then err_at none Never (apa1.first_of false s prev) (row_first s prev) (λ why p. refl) (second_lax prev) (read_signed false 64 s at) (lax_signed 64 s at) (same (lax_signed_law 64 s at))

  number_lax : (u : Signed) → apa1.count_of u u ≡ count_of u
  unfolding apa1.count_of apa1.plain count_of
  number_lax (Ok ((pos n), first)) = refl
  number_lax (Ok ((negsuc n), first)) = refl
  number_lax (Err e) = refl

  head_lax : apa1.head_at false s ≡ cond (starts_with apa1.identifier s) (count_of (lax_signed 64 s (length apa1.identifier))) (err_at Identifier 0)
  unfolding apa1.head_at
  head_lax =
      let at = length apa1.identifier in
      ap (λ (u : Unsigned). cond (starts_with apa1.identifier s) u (err_at Identifier 0)) (number_lax (read_signed false 64 s at) ∙ ap count_of (lax_signed_law 64 s at))

  apa1_before : apa1.decode false s ≡ apa1_decode s
  unfolding apa1.decode apa1.parse apa1_decode
  apa1_before =
      ap (λ (o : Outcome (List apa1.Row)). cond (leb (length s) input_limit) o (refused Limit 0))
      (never (unless_counted Never (apa1.step_at false s) (row_at s) (length s) row_lax apa1.start (apa1.head_at false s) _ (same head_lax)))

  pub apa1_lax : {os os' : List ℕ} {us us' : List ℤ} {r : Answer} → apa1-contract.Reads false s os us r os' us' → Apa1Reads s os us r os' us'
  unfolding apa1-contract.decoding apa1_decoding
  apa1_lax {os} {os'} {us} {us'} d =
      let e : apa1-contract.decoding false s (length os) (length us) ≡ apa1_decoding s (length os) (length us) = ap (λ (o : Outcome (List apa1.Row)). cond (eqb (length os) (length us)) o (refused Columns 0)) apa1_before in
      record { answer = d.answer ∙ ap (answer_in (length os)) e; columns = subst (λ (o : Outcome (List apa1.Row)). apa1-contract.Filled o os us os' us') e d.columns }

-- ---- RELLEB
module _ (W : ℕ) (s : List ℕ) where
  addend_lax : (at : ℕ) (base : ℤ) (o t y : ℕ) (u : Signed) → relleb.with_addend false W at base o t y u ≡ with_addend W base o t y u
  unfolding relleb.with_addend with_addend
  addend_lax at base o t y (Ok (e, past)) = refl
  addend_lax at base o t y (Err e) = refl

  symbol_lax : (base : ℤ) (o t : ℕ) (u : Signed) → relleb.with_symbol false W s base o t u ≡ with_symbol W s base o t u
  unfolding relleb.with_symbol with_symbol
  symbol_lax base o t (Ok ((pos y), next)) = refl
  symbol_lax base o t (Ok ((negsuc y), next)) = ap (relleb.with_addend false W next base o t y) (lax_signed_law W s next) ∙ addend_lax next base o t y (lax_signed W s next)
  symbol_lax base o t (Err e) = refl

  type_lax : (prev : relleb.State) (o : ℕ) (u : Signed) → relleb.with_type false W s prev o u ≡ with_type W s prev o u
  unfolding relleb.with_type with_type
  type_lax prev o (Ok (d, next)) = ap (relleb.with_symbol false W s prev.addend o _) (lax_signed_law 33 s next) ∙ symbol_lax prev.addend o _ (lax_signed 33 s next)
  type_lax prev o (Err e) = refl

  move_lax : (prev : relleb.State) (u : Unsigned) → relleb.with_offset false W s prev u ≡ with_offset W s prev u
  unfolding relleb.with_offset with_offset
  move_lax prev (Ok (d, next)) = ap (relleb.with_type false W s prev _) (lax_signed_law 32 s next) ∙ type_lax prev _ (lax_signed 32 s next)
  move_lax prev (Err e) = refl

  record_lax : (at : ℕ) (prev : relleb.State) → Unless none Never (relleb.step_at false W s at prev) (record_at W s at prev)
  unfolding relleb.step_at record_at
  record_lax at prev = same (ap (relleb.with_offset false W s prev) (lax_unsigned_law W s at) ∙ move_lax prev (lax_unsigned W s at))

  relleb_before : relleb.decode false W s ≡ relleb_decode W s
  unfolding relleb.decode relleb.parse relleb_decode
  relleb_before =
      ap (λ (o : Outcome (List relleb.Row)). cond (leb (length s) input_limit) o (refused Limit 0))
      (never (unless_counted Never (relleb.step_at false W s) (record_at W s) (length s) record_lax relleb.start (read_unsigned false 64 s 0) (lax_unsigned 64 s 0) (same (lax_unsigned_law 64 s 0))))

module _ (class : ℕ) (s os ts ys : List ℕ) (us : List ℤ) {r : Answer} {os' ts' ys' : List ℕ} {us' : List ℤ} where
  pub relleb_lax : relleb-contract.Reads class false s os ts ys us r os' ts' ys' us' → RellebReads class s os ts ys us r os' ts' ys' us'
  unfolding relleb-contract.decoding relleb_decoding
  relleb_lax d =
      record { answer = d.answer ∙ ap (answer_in (length os)) as_before; columns = subst (λ (o : Outcome (List relleb.Row)). relleb-contract.Filled o os ts ys us os' ts' ys' us') as_before d.columns }
    where
      even : Bool
      even = relleb-contract.even (length os) (length ts) (length ys) (length us)

      go : (n : Option Size) → in_class n (λ z. cond even (relleb.decode false (width_of z) s) (refused Columns 0)) ≡ in_class n (λ z. cond even (relleb_decode (width_of z) s) (refused Columns 0))
      go (Some z) = ap (λ (o : Outcome (List relleb.Row)). cond even o (refused Columns 0)) (relleb_before (width_of z) s)
      go None = refl

      as_before : relleb-contract.decoding class false s (length os) (length ts) (length ys) (length us) ≡ relleb_decoding class s (length os) (length ts) (length ys) (length us)
      as_before = go (class_of class)

-- ---- strict reading against lax
-- a refused answer has the refusal's number and its place
refused_at : {r : Answer} (why : Refusal) (p : ℕ) (P : ℕ → Type 0) → r ≡ refusal why p → P p → (r.number ≡ number_of why) × P r.place
unfolding refusal
refused_at why p P e h = (ap (λ (x : Answer). x.number) e, subst P (sym (ap (λ (x : Answer). x.place) e)) h)

module _ (s column : List ℕ) {r r' : Answer} {new new' : List ℕ} where
  pub apr1_strict : apr1-contract.Reads true s column r new → apr1-contract.Reads false s column r' new'
      → ((r ≡ r') × (new ≡ new')) ⊎ ((r.number ≡ 18) × LongerUnsigned 32 s r.place × (new ≡ column))
  apr1_strict d e = go (apr1.decode true s) (apr1.decode false s) (apr1-setting.decode_unless true s) d.answer d.held e.answer e.held
    where
      go : (o o' : Outcome (List ℕ)) → Unless refused (apr1-setting.Spelled s) o o' → r ≡ answer_in (length column) o → new ≡ filled itself o column
          → r' ≡ answer_in (length column) o' → new' ≡ filled itself o' column → ((r ≡ r') × (new ≡ new')) ⊎ ((r.number ≡ 18) × LongerUnsigned 32 s r.place × (new ≡ column))
      go o o' (same q) a b c f = inl (a ∙ ap (answer_in (length column)) q ∙ sym c, b ∙ ap (λ (x : Outcome (List ℕ)). filled itself x column) q ∙ sym f)
      go o o' (but why p q (w, l)) a b c f =
          let (n, at) = refused_at why p (LongerUnsigned 32 s) (a ∙ answer_refused (length column) q) l in
          inr (n ∙ ap number_of w, at, b ∙ filled_refused itself column q)

module _ (s os : List ℕ) (us : List ℤ) {r r' : Answer} {os' os'' : List ℕ} {us' us'' : List ℤ} where
  pub apa1_strict : apa1-contract.Reads true s os us r os' us' → apa1-contract.Reads false s os us r' os'' us''
      → ((r ≡ r') × (os' ≡ os'') × (us' ≡ us'')) ⊎ ((r.number ≡ 18) × LongerSigned 64 s r.place × (os' ≡ os) × (us' ≡ us))
  unfolding apa1-contract.decoding
  apa1_strict d e =
      go
      (unless_cond refused (apa1-setting.Spelled s) (eqb (length os) (length us)) (apa1.decode true s) (apa1.decode false s) (refused Columns 0) (apa1-setting.decode_unless true s))
    where
      go : Unless refused (apa1-setting.Spelled s) (apa1-contract.decoding true s (length os) (length us)) (apa1-contract.decoding false s (length os) (length us))
          → ((r ≡ r') × (os' ≡ os'') × (us' ≡ us'')) ⊎ ((r.number ≡ 18) × LongerSigned 64 s r.place × (os' ≡ os) × (us' ≡ us))
      go (same q) =
          inl (
            d.answer ∙ ap (answer_in (length os)) q ∙ sym e.answer,
            d.columns.offsets ∙ ap (λ (o : Outcome (List apa1.Row)). filled apa1-contract.offset_of o os) q ∙ sym e.columns.offsets,
            d.columns.addends ∙ ap (λ (o : Outcome (List apa1.Row)). filled apa1-contract.addend_of o us) q ∙ sym e.columns.addends,
          )
      go (but why p q (w, l)) =
          let (n, at) = refused_at why p (LongerSigned 64 s) (d.answer ∙ answer_refused (length os) q) l in
          inr (n ∙ ap number_of w, at, d.columns.offsets ∙ filled_refused apa1-contract.offset_of os q, d.columns.addends ∙ filled_refused apa1-contract.addend_of us q)

-- what RELLEB's strict reading alone refuses, with its number, its place and the width of its class
abbrev pub Only : ℕ → List ℕ → Answer → Type 0
Only class s r =
    (z : Size) × (class_of class ≡ Some z)
    × (((r.number ≡ 18) × relleb-setting.Longer (width_of z) s r.place) ⊎ ((r.number ≡ 19) × relleb-setting.Unchanged (width_of z) s r.place))

module _ (class : ℕ) (s os ts ys : List ℕ) (us : List ℤ) where
  -- what is said of such a refusal
  abbrev Spelled : Said
  Spelled why p = (z : Size) × (class_of class ≡ Some z) × relleb-setting.Spelled (width_of z) s why p

  -- what the two settings make of the class and the columns
  relleb_unless : Unless refused Spelled (relleb-contract.decoding class true s (length os) (length ts) (length ys) (length us)) (relleb-contract.decoding class false s (length os) (length ts) (length ys) (length us))
  unfolding relleb-contract.decoding
  relleb_unless = go (class_of class) refl
    where
      even : Bool
      even = relleb-contract.even (length os) (length ts) (length ys) (length us)

      go : (n : Option Size) → class_of class ≡ n → Unless refused Spelled (in_class n (λ z. cond even (relleb.decode true (width_of z) s) (refused Columns 0))) (in_class n (λ z. cond even (relleb.decode false (width_of z) s) (refused Columns 0)))
      go (Some z) e =
          unless_map refused (relleb-setting.Spelled (width_of z) s) Spelled (λ why p h. (z, e, h))
          (unless_cond refused (relleb-setting.Spelled (width_of z) s) even (relleb.decode true (width_of z) s) (relleb.decode false (width_of z) s) (refused Columns 0) (relleb-setting.decode_unless true (width_of z) s))
      go None e = same refl

  only : (r : Answer) (why : Refusal) (p : ℕ) → r ≡ refusal why p → Spelled why p → Only class s r
  only r why p e (z, c, inl (w, l)) = let (n, at) = refused_at why p (relleb-setting.Longer (width_of z) s) e l in (z, c, inl (n ∙ ap number_of w, at))
  only r why p e (z, c, inr (w, l)) = let (n, at) = refused_at why p (relleb-setting.Unchanged (width_of z) s) e l in (z, c, inr (n ∙ ap number_of w, at))

  pub relleb_strict : {r r' : Answer} {os' ts' ys' os'' ts'' ys'' : List ℕ} {us' us'' : List ℤ} → relleb-contract.Reads class true s os ts ys us r os' ts' ys' us' → relleb-contract.Reads class false s os ts ys us r' os'' ts'' ys'' us''
      → ((r ≡ r') × (os' ≡ os'') × (ts' ≡ ts'') × (ys' ≡ ys'') × (us' ≡ us'')) ⊎ (Only class s r × (os' ≡ os) × (ts' ≡ ts) × (ys' ≡ ys) × (us' ≡ us))
  relleb_strict {r} {r'} {os'} {ts'} {ys'} {os''} {ts''} {ys''} {us'} {us''} d e = go relleb_unless
    where
      go : Unless refused Spelled (relleb-contract.decoding class true s (length os) (length ts) (length ys) (length us)) (relleb-contract.decoding class false s (length os) (length ts) (length ys) (length us))
          → ((r ≡ r') × (os' ≡ os'') × (ts' ≡ ts'') × (ys' ≡ ys'') × (us' ≡ us'')) ⊎ (Only class s r × (os' ≡ os) × (ts' ≡ ts) × (ys' ≡ ys) × (us' ≡ us))
      go (same q) =
          inl (
            d.answer ∙ ap (answer_in (length os)) q ∙ sym e.answer,
            d.columns.offsets ∙ ap (λ (o : Outcome (List relleb.Row)). filled relleb-contract.offset_of o os) q ∙ sym e.columns.offsets,
            d.columns.types ∙ ap (λ (o : Outcome (List relleb.Row)). filled relleb-contract.type_of o ts) q ∙ sym e.columns.types,
            d.columns.symbols ∙ ap (λ (o : Outcome (List relleb.Row)). filled relleb-contract.symbol_of o ys) q ∙ sym e.columns.symbols,
            d.columns.addends ∙ ap (λ (o : Outcome (List relleb.Row)). filled relleb-contract.addend_of o us) q ∙ sym e.columns.addends,
          )
      go (but why p q h) =
          inr (
            only r why p (d.answer ∙ answer_refused (length os) q) h,
            d.columns.offsets ∙ filled_refused relleb-contract.offset_of os q,
            d.columns.types ∙ filled_refused relleb-contract.type_of ts q,
            d.columns.symbols ∙ filled_refused relleb-contract.symbol_of ys q,
            d.columns.addends ∙ filled_refused relleb-contract.addend_of us q,
          )

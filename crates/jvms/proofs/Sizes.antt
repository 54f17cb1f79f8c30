-- A listed instruction has a fixed format, or is a `wide` one, and the machine goes on behind it, but not at athrow. It never
-- goes back.
-- Assumes nothing.
use Prim.Native.Nat.{ℕ, ◌+◌, ◌-◌, ◌≤◌, ◌<◌}
use native.Mathlib.Omega.{arith}
use mathlib.Core.Path.{◌≡◌, refl, ◌∙◌, sym, ap, subst}
use mathlib.Core.Bool.{Bool, true, false}
use mathlib.Core.List.{List}
use lib.Dec.{T, eqb, leb, ltb, eqb→eq}
use borrow.Author.Tests.{ne_eqb, lt-ltb, ltb-true, ltb-false}
use Rattle.basics.specs.Bytes.{byte_at, AreBytes}
use Rattle.basics.specs.Choice.{pick, alike, one_of}
use Rattle.basics.proofs.Choice.{chosen}
use Rattle.basics.proofs.Every.{every_at, alike_is}
use Rattle.jvms.specs.Extent.{Extent, takes, reserved_opcode, not_widened, low_above_high, negative_pairs, wide_extent, extent_by, extent_at}
use Rattle.jvms.specs.Format.{Format, fixed, tableswitch, lookupswitch, wide, reserved, widths, formats, format_of}
use Rattle.jvms.specs.Laws.{listed, is_listed, of_two_bytes, of_three_bytes, bytes_of, FixedSize}
use Rattle.jvms.specs.Machine.{Pool, cited_at, size_of, State, perform, next}
use Rattle.jvms.specs.Stack.{Entry, unlisted, does, either_of, loads, stores, increments, throws, Cited, entries, key_at, key_count, entry_of, entry_at}
use Rattle.jvms.proofs.Entries.{every_entry}
use Rattle.jvms.proofs.Keys.{key_plain, key_far}

-- ---- the table

pub table_lists : (key : ℕ) → key < key_count → is_listed (entry_of key) ≡ listed key
unfolding entries entry_of
table_lists key below =
    alike_is (is_listed (entry_of key)) (listed key)
    (every_at (λ k. alike (is_listed (entry_of k)) (listed k)) key_count tt key below)

-- a fixed format of so many bytes with the opcode
abbrev measures : ℕ → Format → Bool
measures n (fixed os) = eqb (1 + widths os) n
measures n tableswitch = false
measures n lookupswitch = false
measures n wide = false
measures n reserved = false

-- an extent of so many bytes
abbrev pub reaches : ℕ → Extent → Bool
reaches n (takes m) = eqb m n
reaches n reserved_opcode = false
reaches n not_widened = false
reaches n low_above_high = false
reaches n negative_pairs = false

reached : (n : ℕ) (x : Extent) → T (reaches n x) → x ≡ takes n
reached n (takes m) t = ap takes (eqb→eq m n t)
reached n reserved_opcode t = absurd t
reached n not_widened t = absurd t
reached n low_above_high t = absurd t
reached n negative_pairs t = absurd t

-- a key has so many bytes: by the format of its opcode, or by the opcode behind `wide`
abbrev measures_key : ℕ → ℕ → Bool
measures_key n key = pick (ltb key 256) (measures n (format_of key)) (reaches n (wide_extent (key - 256)))

listed_measure : (key : ℕ) → T (is_listed (entry_of key)) → T (measures_key (bytes_of key) key)
unfolding entries entry_of formats format_of
listed_measure key t =
    by_listed (is_listed (entry_of key)) t
    (every_entry (λ k e. pick (is_listed e) (measures_key (bytes_of k) k) true) tt (λ k. tt) key)
  where
    by_listed : (b : Bool) → T b → T (pick b (measures_key (bytes_of key) key) true) → T (measures_key (bytes_of key) key)
    by_listed true t u = u
    by_listed false t u = absurd t

-- every key has a byte at least
some_bytes : (key : ℕ) → 0 < bytes_of key
some_bytes key =
    chosen Some (eqb key 388) 6 _ (omega arith)
    (chosen Some (leb 256 key) 4 _ (omega arith)
    (chosen Some (one_of of_two_bytes key) 2 _ (omega arith)
    (chosen Some (one_of of_three_bytes key) 3 _ (omega arith)
    (chosen Some (eqb key 197) 4 _ (omega arith) (chosen Some (eqb key 185) 5 1 (omega arith) (omega arith))))))
  where
    Some : ℕ → Type 0
    Some n = 0 < n

-- control does not leave the code
abbrev goes_on : Entry → Bool
goes_on unlisted = true
goes_on (does f) = true
goes_on (either_of f others) = true
goes_on (loads l f) = true
goes_on (stores l f) = true
goes_on (increments l f) = true
goes_on (throws os) = false

others_go_on : (op : ℕ) → T (pick (eqb op 191) true (goes_on (entry_of op)))
unfolding entries entry_of
others_go_on =
    every_entry (λ op e. pick (eqb op 191) true (goes_on e)) tt (λ op. chosen T (eqb op 191) true true tt tt)

-- ---- the instruction at an index

module _ (code : List ℕ) (pc : ℕ) where
  -- a fixed size of so many bytes
  record Sized (n : ℕ) : Type 0 where
    size : FixedSize code pc
    counted : 1 + widths size.operands ≡ n

  sized : (n : ℕ) (f : Format) → format_of (byte_at code pc) ≡ f → T (measures n f) → Sized n
  unfolding extent_at
  sized n (fixed os) e t =
      record {
        size = record { operands = os; format = e; extent = ap (λ (f : Format). extent_by f code pc) e };
        counted = eqb→eq (1 + widths os) n t;
      }
  sized n tableswitch e t = absurd t
  sized n lookupswitch e t = absurd t
  sized n wide e t = absurd t
  sized n reserved e t = absurd t

  listed_sized : T (is_listed (entry_at code pc)) → key_at code pc < 256 → Sized (bytes_of (key_at code pc))
  listed_sized t small =
      sized (bytes_of (key_at code pc)) (format_of (key_at code pc)) (ap format_of (key_plain code pc small))
      (rw (lt-ltb (key_at code pc) 256 small) at (listed_measure (key_at code pc) t))

  pub fixed-size : T (is_listed (entry_at code pc)) → key_at code pc < 256 → FixedSize code pc
  fixed-size t small = (listed_sized t small).size

  -- behind `wide` the opcode there tells the bytes
  pub far_extent :
      AreBytes code → (n : ℕ) → T (reaches n (wide_extent (key_at code pc - 256))) → 256 ≤ key_at code pc → extent_at code pc ≡ takes n
  unfolding extent_at formats format_of
  far_extent are n t large =
      let far = key_far code pc large are in
      let behind : byte_at code (pc + 1) ≡ key_at code pc - 256 = omega (arith, far.1) in
      ap (λ (op : ℕ). extent_by (format_of op) code pc) far.0 ∙ ap wide_extent behind
      ∙ reached n (wide_extent (key_at code pc - 256)) t

  pub listed_extent : AreBytes code → T (is_listed (entry_at code pc)) → extent_at code pc ≡ takes (bytes_of (key_at code pc))
  listed_extent are t = by_key (ltb (key_at code pc) 256) refl
    where
      by_key : (b : Bool) → ltb (key_at code pc) 256 ≡ b → extent_at code pc ≡ takes (bytes_of (key_at code pc))
      by_key true e =
          let here = listed_sized t (ltb-true (key_at code pc) 256 e) in
          here.size.extent ∙ ap takes here.counted
      by_key false e =
          far_extent are (bytes_of (key_at code pc)) (rw e at (listed_measure (key_at code pc) t)) (ltb-false (key_at code pc) 256 e)

-- ---- the machine

module _ {Val : Type 0} where
  module _ (cited : Cited) (code : List ℕ) (own : ℕ → Val) (st : State Val) where
    moved :
        (e : Entry) → T (is_listed e) → T (goes_on e) → (perform cited code own st e).pc ≡ st.pc + size_of (extent_at code st.pc)
    moved unlisted t g = absurd t
    moved (does f) t g = refl
    moved (either_of f others) t g = refl
    moved (loads l f) t g = refl
    moved (stores l f) t g = refl
    moved (increments l f) t g = refl
    moved (throws os) t g = absurd g

    not_back : (e : Entry) → st.pc ≤ (perform cited code own st e).pc
    not_back unlisted = omega arith
    not_back (does f) = omega arith
    not_back (either_of f others) = omega arith
    not_back (loads l f) = omega arith
    not_back (stores l f) = omega arith
    not_back (increments l f) = omega arith
    not_back (throws os) = omega arith

  module _ (pool : Pool) (code : List ℕ) (opaque : ℕ → ℕ → Val) (st : State Val) where
    -- by the bytes that JVMS gives it
    by_extent :
        (n : ℕ) → extent_at code st.pc ≡ takes n → T (is_listed (entry_at code st.pc)) → (key_at code st.pc ≡ 191 → ⊥) →
        (next pool code opaque st).pc ≡ st.pc + n
    by_extent n extent t other =
        let key = key_at code st.pc in
        let on = rw (ne_eqb key 191 other) at (others_go_on key) in
        moved (cited_at pool code st.pc) code (opaque st.pc) st (entry_of key) t on
        ∙ ap (λ (x : Extent). st.pc + size_of x) extent

    pub steps_on :
        AreBytes code → T (is_listed (entry_at code st.pc)) → (key_at code st.pc ≡ 191 → ⊥) →
        (next pool code opaque st).pc ≡ st.pc + bytes_of (key_at code st.pc)
    steps_on are t other = by_extent (bytes_of (key_at code st.pc)) (listed_extent code st.pc are t) t other

    pub leaves_listed :
        AreBytes code → T (is_listed (entry_at code st.pc)) → (key_at code st.pc ≡ 191 → ⊥) →
        st.pc < (next pool code opaque st).pc
    leaves_listed are t other = omega (arith, steps_on are t other, some_bytes (key_at code st.pc))

    pub invokeinterface_five : key_at code st.pc ≡ 185 → (next pool code opaque st).pc ≡ st.pc + 5
    unfolding entries entry_of
    invokeinterface_five e =
        let listed : T (is_listed (entry_at code st.pc)) = subst (λ (key : ℕ). T (is_listed (entry_of key))) (sym e) tt in
        let here = listed_sized code st.pc listed (omega (arith, e)) in
        by_extent 5 (here.size.extent ∙ ap takes (here.counted ∙ ap bytes_of e)) listed (λ s. omega arith)

    pub never-back : st.pc ≤ (next pool code opaque st).pc
    never-back = not_back (cited_at pool code st.pc) code (opaque st.pc) st (entry_at code st.pc)

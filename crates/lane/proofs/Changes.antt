-- The kinds of change to what is shared, and what each leaves.
use Rattle.std.proofs.Common.{◌≡◌, ℕ, ◌+◌, ◌-◌, ◌%◌, ◌<◌, ◌≤◌, ◌⊎◌, List, ◌∷◌, length, get_or, set, ℤ, pos, sym, refl, ap, ◌∙◌, subst, inl, inr, arith, length-set, get_or-set_other, get_or-set_same}
use Rattle.std.proofs.lemmas.Bool.{cases_eq, cases_lt}
use Rattle.body.specs.declared.body.Body.{Ghosts}
use Rattle.body.specs.Serial.{Commit, alone}
use Rattle.lane.specs.State.{Core, base, mark_of, mark_set, cell_set, numbered}
use Rattle.lane.proofs.Orders.{Upto, upto_more, state, full, state_full, state_below, full_top, agrees_top, full_reader, agrees_reader, state_reader}
use Rattle.lane.proofs.Inv.{Sh, Later, Quiet, Low}

-- A mark that is set
pub mark_set_at : (g : Core) (c d : ℕ) → 0 < length g.marks → (mark_of (mark_set c g) d ≡ mark_of g d) ⊎ (mark_of (mark_set c g) d ≡ g.number)
mark_set_at g c d h = rw length-set (by (cases_eq (d % length g.marks) (c % length g.marks)))
  where
    by : (d % length g.marks ≡ c % length g.marks) ⊎ (d % length g.marks ≡ c % length g.marks → ⊥) → (get_or (set g.marks (c % length g.marks) g.number) (d % length g.marks) 0 ≡ mark_of g d) ⊎ (get_or (set g.marks (c % length g.marks) g.number) (d % length g.marks) 0 ≡ g.number)
    by (inl e) = inr (rw e (get_or-set_same g.marks (c % length g.marks) g.number 0 (omega arith)))
    by (inr e) = inl (get_or-set_other g.marks (c % length g.marks) (d % length g.marks) g.number 0 e)

pub mark_set_here : (g : Core) (c : ℕ) → 0 < length g.marks → mark_of (mark_set c g) c ≡ g.number
mark_set_here g c h = rw length-set (get_or-set_same g.marks (c % length g.marks) g.number 0 (omega arith))

module _ {B : Type 0} (m : Ghosts B) (σ : List ℤ) where
  pub quiet_refl : (g : Core) (C : List (Commit B)) → Quiet m σ g C g C
  quiet_refl g C = record { same = refl; states = λ t. refl; all = refl }

  pub later_quiet : (g g' : Core) (C C' : List (Commit B)) → Quiet m σ g C g' C' → Later m σ g C g' C'
  later_quiet g g' C C' q = record { grows = subst (λ (x : Core). base g.number ≤ base x.number) (sym q.same) (omega arith); states = λ t h. q.states t; marks = λ c. inl (ap (λ x. mark_of x c) q.same) }

  module _ (g : Core) (C : List (Commit B)) (sh : Sh m σ g C) where
    -- A mark is set
    pub sh_mark : (c : ℕ) → g.number % 2 ≡ 1 → Sh m σ (mark_set c g) C
    sh_mark c o = record {
      numbers = sh.numbers;
      high = λ d. high d (mark_set_at g c d sh.some);
      free = λ e. absurd (omega arith);
      marked = λ d t l r. marked d t l r (mark_set_at g c d sh.some);
      agrees = sh.agrees;
      long = sh.long;
      some = rw length-set sh.some;
    }
      where
        high : (d : ℕ) → (mark_of (mark_set c g) d ≡ mark_of g d) ⊎ (mark_of (mark_set c g) d ≡ g.number) → mark_of (mark_set c g) d ≤ g.number
        high d (inl e) = omega (arith, sh.high d)
        high d (inr e) = omega arith

        marked : (d t : ℕ) → mark_of (mark_set c g) d ≤ t → t ≤ base g.number → (mark_of (mark_set c g) d ≡ mark_of g d) ⊎ (mark_of (mark_set c g) d ≡ g.number) → get_or g.cells d (pos 0) ≡ get_or (state m σ t C) d (pos 0)
        marked d t l r (inl e) = sh.marked d t (omega arith) r
        marked d t l r (inr e) = absurd (omega arith)

    pub later_mark : (c : ℕ) → g.number % 2 ≡ 1 → Later m σ g C (mark_set c g) C
    later_mark c o = record { grows = omega arith; states = λ t h. refl; marks = λ d. marks d (mark_set_at g c d sh.some) }
      where
        marks : (d : ℕ) → (mark_of (mark_set c g) d ≡ mark_of g d) ⊎ (mark_of (mark_set c g) d ≡ g.number) → (mark_of (mark_set c g) d ≡ mark_of g d) ⊎ (base g.number < mark_of (mark_set c g) d)
        marks d (inl e) = inl e
        marks d (inr e) = inr (omega arith)

    -- A cell is set whose mark is the odd number
    pub sh_cell : (c : ℕ) (x : ℤ) → g.number % 2 ≡ 1 → mark_of g c ≡ g.number → Sh m σ (cell_set c x g) C
    sh_cell c x o e = record {
      numbers = sh.numbers;
      high = sh.high;
      free = λ z. absurd (omega arith);
      marked = λ d t l r. marked d t l r (cases_eq d c);
      agrees = sh.agrees;
      long = length-set g.cells c x ∙ sh.long;
      some = sh.some;
    }
      where
        marked : (d t : ℕ) → mark_of g d ≤ t → t ≤ base g.number → (d ≡ c) ⊎ (d ≡ c → ⊥) → get_or (set g.cells c x) d (pos 0) ≡ get_or (state m σ t C) d (pos 0)
        marked d t l r (inl q) = absurd (let z : mark_of g d ≡ g.number = (rw q e) in omega arith)
        marked d t l r (inr q) = get_or-set_other g.cells c d x (pos 0) q ∙ sh.marked d t l r

    pub later_cell : (c : ℕ) (x : ℤ) → Later m σ g C (cell_set c x g) C
    later_cell c x = record { grows = omega arith; states = λ t h. refl; marks = λ d. inl refl }

    -- The lane is taken
    pub sh_take : g.number % 2 ≡ 0 → Sh m σ (numbered (g.number + 1) g) C
    sh_take e = record {
      numbers = upto_more (base g.number) (base (g.number + 1)) C (omega arith) sh.numbers;
      high = λ d. omega (arith, sh.high d);
      free = λ z. absurd (omega arith);
      marked = λ d t l r. sh.marked d t l (omega arith);
      agrees = sh.agrees;
      long = sh.long;
      some = sh.some;
    }

    pub later_take : g.number % 2 ≡ 0 → Later m σ g C (numbered (g.number + 1) g) C
    later_take e = record { grows = omega arith; states = λ t h. refl; marks = λ d. inl refl }

    -- The lane is let go, and nothing was written
    pub sh_give : g.number % 2 ≡ 1 → g.cells ≡ full m σ C → Low m σ g → Sh m σ (numbered (g.number - 1) g) C
    sh_give o e low = record {
      numbers = upto_more (base g.number) (base (g.number - 1)) C (omega arith) sh.numbers;
      high = λ d. omega (arith, low d);
      free = λ z. e;
      marked = λ d t l r. sh.marked d t l (omega arith);
      agrees = sh.agrees;
      long = sh.long;
      some = sh.some;
    }

    pub later_give : g.number % 2 ≡ 1 → Later m σ g C (numbered (g.number - 1) g) C
    later_give o = record { grows = omega arith; states = λ t h. refl; marks = λ d. inl refl }

    module _ (b : B) (vs : List ℤ) where
      abbrev top : Commit B
      top = record { number = g.number; body = b; handed = vs }

      -- A commit under the odd number
      pub sh_commit : g.number % 2 ≡ 1 → alone m b (full m σ C) ≡ record { handed = vs; cells = g.cells } → Sh m σ (numbered (g.number + 1) g) (top ∷ C)
      sh_commit o a =
          let u : Upto g.number C = upto_more (base g.number) g.number C (omega arith) sh.numbers in
          let f : g.cells ≡ full m σ (top ∷ C) = sym (full_top m σ top C u ∙ ap (λ x. x.cells) a) in
          let u' : Upto g.number (top ∷ C) = (omega arith, u) in
          record {
            numbers = upto_more g.number (base (g.number + 1)) (top ∷ C) (omega arith) u';
            high = λ d. omega (arith, sh.high d);
            free = λ z. f;
            marked = λ d t l r. marked f u' d t l (cases_lt t g.number);
            agrees = agrees_top m σ top C u sh.agrees (ap (λ x. x.handed) a);
            long = sh.long;
            some = sh.some;
          }
        where
          marked : g.cells ≡ full m σ (top ∷ C) → Upto g.number (top ∷ C) → (d t : ℕ) → mark_of g d ≤ t → (t < g.number) ⊎ (g.number ≤ t) → get_or g.cells d (pos 0) ≡ get_or (state m σ t (top ∷ C)) d (pos 0)
          marked f u' d t l (inl h) = sh.marked d t l (omega arith) ∙ ap (λ x. get_or x d (pos 0)) (sym (state_below m σ t top C h))
          marked f u' d t l (inr h) = ap (λ x. get_or x d (pos 0)) (f ∙ sym (state_full m σ t (top ∷ C) (upto_more g.number t (top ∷ C) h u')))

      pub later_commit : g.number % 2 ≡ 1 → Later m σ g C (numbered (g.number + 1) g) (top ∷ C)
      later_commit o = record { grows = omega arith; states = λ t h. state_below m σ t top C (omega arith); marks = λ d. inl refl }

      -- A commit of a reader, under its start
      module _ (st : ℕ) (early : st ≤ base g.number) (a : alone m b (state m σ st C) ≡ record { handed = vs; cells = state m σ st C }) where
        abbrev reader : Commit B
        reader = record { number = st; body = b; handed = vs }

        pub quiet_reader : Quiet m σ g C g (reader ∷ C)
        quiet_reader =
            let e : (alone m b (state m σ st C)).cells ≡ state m σ st C = ap (λ x. x.cells) a in
            record { same = refl; states = λ t. state_reader m σ t reader C e; all = full_reader m σ reader C e }

        pub sh_reader : Sh m σ g (reader ∷ C)
        sh_reader = record {
          numbers = (early, sh.numbers);
          high = sh.high;
          free = λ z. sh.free z ∙ sym quiet_reader.all;
          marked = λ d t l r. sh.marked d t l r ∙ ap (λ x. get_or x d (pos 0)) (sym (quiet_reader.states t));
          agrees = agrees_reader m σ reader C a sh.agrees;
          long = sh.long;
          some = sh.some;
        }

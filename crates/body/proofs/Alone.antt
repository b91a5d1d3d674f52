-- A body that follows a plan does alone what the plan says. Assumes nothing.
use Rattle.std.proofs.Common.{◌≡◌, ℕ, zero, suc, ◌<◌, ◌≤◌, List, length, get_or, set, ℤ, pos, sym, refl, ap, ◌∙◌, subst, arith}
use Rattle.body.specs.declared.body.Body.{Ghosts}
use Rattle.body.specs.declared.request.Request.TheVariants.{Read, Write}
use Rattle.body.specs.Makers.{Made}
use Rattle.body.specs.Meaning.{Lawful, ReadTold, WriteTaken}
use Rattle.body.specs.Plans.{Plan, read, write, end, Done, Follows, run_out, RunsAlone, carried_out}
use Rattle.body.specs.Serial.{given, go}

-- what runs alone as one account says also runs as an account that agrees with it
pub runs_as : {B R : Type 0} (m : Ghosts B) (result : B → R) (b : B) (d e : List ℤ → Done R) (cs : List ℤ) → ((d cs).outcome ≡ (e cs).outcome) × ((d cs).result ≡ (e cs).result) → RunsAlone m result b d cs → RunsAlone m result b e cs
runs_as m result b d e cs same runs = record { outcome = runs.outcome ∙ same.0; ends_with = runs.ends_with ∙ same.1 }

module _ {B R : Type 0} (m : Ghosts B) (result : B → R) (law : Lawful m.asks m.told m.taken m.begin m.left m.reach m.len) where
  -- a telling that answers leaves fewer requests
  fewer_read : (b : B) (c : ℕ) (a : ℤ) → m.asks b ≡ Read c → m.left (m.told b a) < m.left b
  fewer_read b c a e = subst (ReadTold m.left b (m.told b a)) e (law.reads b a)

  fewer_write : (b : B) (c : ℕ) (v : ℤ) → m.asks b ≡ Write c v → m.left (m.taken b) < m.left b
  fewer_write b c v e = subst (WriteTaken m.left b (m.taken b)) e (law.writes b)

  pub goes : (p : Plan R) (n : ℕ) (b : B) (cs : List ℤ) → Follows m result p b → m.left b ≤ n → go m n b cs ≡ (carried_out p cs).outcome
  goes (read c next) zero b cs f h = absurd (omega (arith, h, fewer_read b c (pos 0) f.0))
  goes (read c next) (suc n) b cs f h =
      let a = get_or cs c (pos 0) in
      rw (f.0, go) (ap (given a) (goes (next a) n (m.told b a) cs (f.1 a) (omega (arith, h, fewer_read b c a f.0))))
  goes (write c v next) zero b cs f h = absurd (omega (arith, h, fewer_write b c v f.0))
  goes (write c v next) (suc n) b cs f h =
      rw (f.0, go) (goes next n (m.taken b) (set cs c v) f.1 (omega (arith, h, fewer_write b c v f.0)))
  goes (end r) zero b cs f h = refl
  goes (end r) (suc n) b cs f h = rw (f.0, go) refl

  pub rests : (p : Plan R) (n : ℕ) (b : B) (cs : List ℤ) → Follows m result p b → m.left b ≤ n → result (run_out m result n b cs) ≡ (carried_out p cs).result
  rests (read c next) zero b cs f h = absurd (omega (arith, h, fewer_read b c (pos 0) f.0))
  rests (read c next) (suc n) b cs f h =
      let a = get_or cs c (pos 0) in
      rw (f.0, run_out) (rests (next a) n (m.told b a) cs (f.1 a) (omega (arith, h, fewer_read b c a f.0)))
  rests (write c v next) zero b cs f h = absurd (omega (arith, h, fewer_write b c v f.0))
  rests (write c v next) (suc n) b cs f h =
      rw (f.0, run_out) (rests next n (m.taken b) (set cs c v) f.1 (omega (arith, h, fewer_write b c v f.0)))
  rests (end r) zero b cs f h = f.1
  rests (end r) (suc n) b cs f h = rw (f.0, run_out) f.1

  pub runs_alone : (p : Plan R) (b : B) (cs : List ℤ) → Follows m result p (m.begin b) → RunsAlone m result b (carried_out p) cs
  runs_alone p b cs f = record {
    outcome = goes p (m.left (m.begin b)) (m.begin b) cs f (omega arith);
    ends_with = rests p (m.left (m.begin b)) (m.begin b) cs f (omega arith);
  }

  -- a body at its start that follows a plan is made of it, where the plan carried out alone is this account
  pub made : (p : Plan R) (does : List ℤ → Done R) (reach len : ℕ) (b : B) → m.begin b ≡ b → Follows m result p b → m.reach b ≡ reach → m.len b ≡ len → ((cs : List ℤ) → reach ≤ length cs → ((carried_out p cs).outcome ≡ (does cs).outcome) × ((carried_out p cs).result ≡ (does cs).result)) → Made m result p does reach len b
  made p does reach len b starts follows reaches lasts same = record {
    starts = starts;
    follows = follows;
    alone = λ cs room. runs_as m result b (carried_out p) does cs (same cs room) (runs_alone p b cs (subst (Follows m result p) (sym starts) follows));
    reaches = reaches;
    lasts = lasts;
  }

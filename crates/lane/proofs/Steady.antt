-- Each step keeps a book sane: phases stay the master's or a helper's, logs and entries stay short, and numbers near.
use Rattle.std.proofs.Common.{◌≡◌, ℕ, ◌+◌, ◌≤◌, true, false, not, ◌&&◌, eqb, ltb, leb, length, get_or, pos, Some, None, Option, sym, refl, ap, ◌∙◌, arith}
use mathlib.Core.Bool.{false≢true}
use Rattle.std.proofs.lemmas.Bool.{ltb-true, cond_both}
use Rattle.body.specs.declared.body.Body.{Ghosts}
use Rattle.body.specs.declared.request.Request.{Request}
use Rattle.body.specs.declared.request.Request.TheVariants.{Read, Write, End}
use Rattle.lane.specs.declared.phase.Phase.{Phase}
use Rattle.lane.specs.declared.phase.Phase.TheVariants.{Reserve, MasterLook, Take, MasterRun, Put, Begin, Run, Check, Wait, Look, Prevalidate, Swap, Validate, Mark, Cell, Release, LetGo, Quit, Leave}
use Rattle.lane.specs.declared.phase.Way.{Way}
use Rattle.lane.specs.declared.phase.Way.TheVariants.{One, Two, Three}
use Rattle.lane.specs.declared.step.Effect.{Effect}
use Rattle.lane.specs.declared.step.Effect.TheVariants.{Unchanged, FlagSet, LaneTaken, MarkSet, CellSet, NumberRaised, NumberLowered, QueueJoined, QueueLeft}
use Rattle.lane.specs.declared.step.LogChange.{LogChange}
use Rattle.lane.specs.declared.step.LogChange.TheVariants.{Same, Emptied, Noted, Entered}
use Rattle.lane.specs.declared.step.Step.{Step}
use Rattle.lane.specs.Effects.{shared_after, reads_after, writes_after}
use Rattle.lane.specs.Logs.{has, mem, no_entry, most_reads, most_writes}
use Rattle.lane.specs.Phases.{goes, does, look_step, look_even, way_step, read_step, run_step, after_swap, let_go_step, release_step, master_run_step, step_at}
use Rattle.lane.specs.Sane.{raises, lowers, masters, entry_at, joined}
use Rattle.lane.specs.State.{Shared, Work, entries, odd, stale, first_is}
use Rattle.lane.proofs.Steps.{few_entered, few_noted, not_full, few_entries}

-- Of the next phase, if there is one.
abbrev pub of_next : (Phase → ℕ) → Option Phase → ℕ
of_next f None = 0
of_next f (Some q) = f q

abbrev pub NextIs : (Phase → Type 0) → Option Phase → Type 0
NextIs P None = Unit {0}
NextIs P (Some q) = P q

-- Who joins was not in the queue, and who leaves is not; otherwise nothing changes.
abbrev pub Queues : Way → Phase → Effect → Option Phase → Type 0
Queues y p Unchanged x = of_next (joined y) x ≡ joined y p
Queues y p FlagSet x = of_next (joined y) x ≡ joined y p
Queues y p LaneTaken x = of_next (joined y) x ≡ joined y p
Queues y p (MarkSet c) x = of_next (joined y) x ≡ joined y p
Queues y p (CellSet c v) x = of_next (joined y) x ≡ joined y p
Queues y p NumberRaised x = of_next (joined y) x ≡ joined y p
Queues y p NumberLowered x = of_next (joined y) x ≡ joined y p
Queues y p QueueJoined x = (joined y p ≡ 0) × (of_next (joined y) x ≡ 1)
Queues y p QueueLeft x = of_next (joined y) x ≡ 0

-- Only who has raised the number lowers it.
abbrev pub Lowering : Effect → ℕ → Type 0
Lowering Unchanged n = Unit {0}
Lowering FlagSet n = Unit {0}
Lowering LaneTaken n = Unit {0}
Lowering (MarkSet c) n = Unit {0}
Lowering (CellSet c v) n = Unit {0}
Lowering NumberRaised n = Unit {0}
Lowering NumberLowered n = n ≡ 1
Lowering QueueJoined n = Unit {0}
Lowering QueueLeft n = Unit {0}

-- A step that leaves the logs or empties them.
abbrev pub Plain : LogChange → Type 0
Plain Same = Unit {0}
Plain Emptied = Unit {0}
Plain (Noted c) = ⊥
Plain (Entered c v) = ⊥

pub record Steady {B : Type 0} (g : Shared) (k : ℕ) (s : Work B) (p : Phase) (z : Step) : Type 0 where
  pub chair : NextIs (λ q. masters q ≡ masters p) z.next
  pub near : NextIs (λ q. entry_at q ≤ most_reads + most_writes) z.next
  pub plain : masters p ≡ true → Plain z.log
  pub few_reads : length (reads_after z.log s.reads) ≤ most_reads
  pub few_writes : length (writes_after z.log s.writes) ≤ most_writes
  pub below : (shared_after k z.effect g).core.number + of_next raises z.next ≤ g.core.number + raises p
  pub above : g.core.number + of_next lowers z.next ≤ (shared_after k z.effect g).core.number + lowers p
  pub queue : Queues s.way p z.effect z.next
  pub lowering : Lowering z.effect (lowers p)

module _ {B : Type 0} (m : Ghosts B) (g : Shared) (k : ℕ) (s : Work B) (fr : length s.reads ≤ most_reads) (fw : length s.writes ≤ most_writes) where
  abbrev S : Phase → Step → Type 0
  S p z = Steady g k s p z

  few : length (entries s) ≤ 96
  few = few_entries s.reads s.writes fr fw

  -- Goes on to a phase of the same kind
  on : (p q : Phase) → masters q ≡ masters p → entry_at q ≤ 96 → raises q ≤ raises p → lowers q ≤ lowers p → joined s.way q ≡ joined s.way p → S p (goes q)
  on p q c n r l j = record { chair = c; near = n; plain = λ _. tt; few_reads = fr; few_writes = fw; below = omega arith; above = omega arith; queue = j; lowering = tt }

  look_steady : (p : Phase) (o : Option ℕ) (y : Way) → raises p ≡ 2 → lowers p ≡ 0 → masters p ≡ false → joined s.way (Wait) ≡ joined s.way p → S p (look_step g.core.number y o)
  look_steady p o y e1 e2 e3 e4 = cond_both (odd g.core.number) _ _ (S p)
      (λ q. record { chair = sym e3; near = omega arith; plain = λ _. tt; few_reads = fr; few_writes = fw; below = omega arith; above = omega arith; queue = e4; lowering = tt })
      (λ q. by y o)
    where
      fresh : (q : Phase) → raises q ≡ 2 → lowers q ≡ 0 → masters q ≡ false → entry_at q ≡ 0 → joined s.way q ≡ joined s.way Wait → S p (goes q)
      fresh q f1 f2 f3 f4 f5 = on p q (f3 ∙ sym e3) (omega arith) (omega arith) (omega arith) (f5 ∙ e4)

      by : (y' : Way) (o' : Option ℕ) → S p (look_even g.core.number y' o')
      by One o' = fresh (Swap None g.core.number) refl refl refl refl refl
      by Two None = fresh (Prevalidate g.core.number 0) refl refl refl refl refl
      by Two (Some f) = fresh (Swap (Some f) g.core.number) refl refl refl refl refl
      by Three o' = fresh (Prevalidate g.core.number 0) refl refl refl refl refl

  master_steady : (q : Request) → S MasterRun (master_run_step g.core.number g.core.cells q)
  master_steady (Read c) = record { chair = refl; near = omega arith; plain = λ _. tt; few_reads = fr; few_writes = fw; below = omega arith; above = omega arith; queue = refl; lowering = tt }
  master_steady (Write c v) = record { chair = refl; near = omega arith; plain = λ _. tt; few_reads = fr; few_writes = fw; below = omega arith; above = omega arith; queue = refl; lowering = tt }
  master_steady End = record { chair = tt; near = tt; plain = λ _. tt; few_reads = fr; few_writes = fw; below = omega arith; above = omega arith; queue = omega arith; lowering = tt }

  run_steady : (q : Request) → S Run (run_step g s q)
  run_steady (Read c) = cond_both (has c s.writes) _ _ (λ o. S Run (read_step g.core.cells c o))
      (λ e. record { chair = refl; near = omega arith; plain = λ _. tt; few_reads = fr; few_writes = fw; below = omega arith; above = omega arith; queue = refl; lowering = tt })
      (λ e. on Run (Check c (get_or g.core.cells c (pos 0))) refl (omega arith) (omega arith) (omega arith) refl)
  run_steady (Write c v) = cond_both (stale g s c) _ _ (S Run)
      (λ e. record { chair = refl; near = omega arith; plain = λ _. tt; few_reads = fr; few_writes = fw; below = omega arith; above = omega arith; queue = refl; lowering = tt })
      (λ e. cond_both (not (has c s.writes) && leb 32 (length s.writes)) _ _ (S Run)
      (λ i. record { chair = tt; near = tt; plain = λ _. tt; few_reads = fr; few_writes = fw; below = omega arith; above = omega arith; queue = omega arith; lowering = tt })
      (λ i. record { chair = refl; near = omega arith; plain = λ e. absurd (false≢true e); few_reads = fr; few_writes = few_entered c v s.writes 32 fw (not_full (has c s.writes) (length s.writes) 32 i); below = omega arith; above = omega arith; queue = refl; lowering = tt }))
  run_steady End = cond_both (eqb (length s.writes) 0) _ _ (S Run)
      (λ e. record { chair = tt; near = tt; plain = λ _. tt; few_reads = fr; few_writes = fw; below = omega arith; above = omega arith; queue = omega arith; lowering = tt })
      (λ e. by s.way refl)
    where
      by : (y : Way) → s.way ≡ y → S Run (way_step g.core.number y)
      by One w = look_steady Run None One refl refl refl (ap (λ y. joined y Wait) w ∙ sym (ap (λ y. joined y Run) w))
      by Two w = record { chair = refl; near = omega arith; plain = λ _. tt; few_reads = fr; few_writes = fw; below = omega arith; above = omega arith; queue = (omega arith, ap (λ y. joined y Wait) w); lowering = tt }
      by Three w = record { chair = refl; near = omega arith; plain = λ _. tt; few_reads = fr; few_writes = fw; below = omega arith; above = omega arith; queue = (omega arith, ap (λ y. joined y Wait) w); lowering = tt }

  -- Entries are validated one by one.
  pub steady : (p : Phase) → entry_at p ≤ most_reads + most_writes → lowers p ≤ g.core.number → S p (step_at m g k s p)
  steady Reserve n l = cond_both g.paused _ _ (S Reserve)
      (λ e. record { chair = refl; near = omega arith; plain = λ _. tt; few_reads = fr; few_writes = fw; below = omega arith; above = omega arith; queue = refl; lowering = tt })
      (λ e. record { chair = refl; near = omega arith; plain = λ _. tt; few_reads = fr; few_writes = fw; below = omega arith; above = omega arith; queue = refl; lowering = tt })
  steady MasterLook n l = cond_both (odd g.core.number) _ _ (S MasterLook)
      (λ e. record { chair = refl; near = omega arith; plain = λ _. tt; few_reads = fr; few_writes = fw; below = omega arith; above = omega arith; queue = refl; lowering = tt })
      (λ e. on MasterLook Take refl (omega arith) (omega arith) (omega arith) refl)
  steady Take n l = record { chair = refl; near = omega arith; plain = λ _. tt; few_reads = omega arith; few_writes = omega arith; below = omega arith; above = omega arith; queue = refl; lowering = tt }
  steady MasterRun n l = master_steady (m.asks s.body)
  steady (Put c v) n l = record { chair = refl; near = omega arith; plain = λ _. tt; few_reads = fr; few_writes = fw; below = omega arith; above = omega arith; queue = refl; lowering = tt }
  steady Begin n l = cond_both g.paused _ _ (S Begin)
      (λ e. record { chair = refl; near = omega arith; plain = λ _. tt; few_reads = fr; few_writes = fw; below = omega arith; above = omega arith; queue = refl; lowering = tt })
      (λ e. record { chair = refl; near = omega arith; plain = λ _. tt; few_reads = omega arith; few_writes = omega arith; below = omega arith; above = omega arith; queue = refl; lowering = tt })
  steady Run n l = run_steady (m.asks s.body)
  steady (Check c v) n l = cond_both (stale g s c) _ _ (S (Check c v))
      (λ e. record { chair = refl; near = omega arith; plain = λ _. tt; few_reads = fr; few_writes = fw; below = omega arith; above = omega arith; queue = refl; lowering = tt })
      (λ e. cond_both (not (mem c s.reads) && leb 64 (length s.reads)) _ _ (S (Check c v))
      (λ i. record { chair = tt; near = tt; plain = λ _. tt; few_reads = fr; few_writes = fw; below = omega arith; above = omega arith; queue = omega arith; lowering = tt })
      (λ i. record { chair = refl; near = omega arith; plain = λ e. absurd (false≢true e); few_reads = few_noted c s.reads 64 fr (not_full (mem c s.reads) (length s.reads) 64 i); few_writes = fw; below = omega arith; above = omega arith; queue = refl; lowering = tt }))
  steady Wait n l = cond_both (first_is k g.queue) _ _ (S Wait)
      (λ e. on Wait (Look None) refl (omega arith) (omega arith) (omega arith) refl)
      (λ e. record { chair = refl; near = omega arith; plain = λ _. tt; few_reads = fr; few_writes = fw; below = omega arith; above = omega arith; queue = refl; lowering = tt })
  steady (Look o) n l = look_steady (Look o) o s.way refl refl refl refl
  steady (Prevalidate c i) n l = cond_both (stale g s (get_or (entries s) i 0)) _ _ (S (Prevalidate c i))
      (λ e. on (Prevalidate c i) Quit refl (omega arith) (omega arith) (omega arith) refl)
      (λ e. cond_both (ltb (i + 1) (length (entries s))) _ _ (S (Prevalidate c i))
      (λ q. on (Prevalidate c i) (Prevalidate c (i + 1)) refl (omega (arith, few, ltb-true (i + 1) (length (entries s)) q)) (omega arith) (omega arith) refl)
      (λ q. on (Prevalidate c i) (Swap (Some c) c) refl (omega arith) (omega arith) (omega arith) refl))
  steady (Swap o c) n l = cond_both (eqb g.core.number c && not g.flag) _ _ (S (Swap o c))
      (λ e. by o)
      (λ e. on (Swap o c) (Look o) refl (omega arith) (omega arith) (omega arith) refl)
    where
      into : (q : Phase) → masters q ≡ false → entry_at q ≡ 0 → raises q ≡ 1 → lowers q ≡ 1 → joined s.way q ≡ joined s.way Wait → S (Swap o c) (does NumberRaised q)
      into q f1 f2 f3 f4 f5 = record { chair = f1; near = omega arith; plain = λ _. tt; few_reads = fr; few_writes = fw; below = omega arith; above = omega arith; queue = f5; lowering = tt }

      by : (o' : Option ℕ) → S (Swap o c) (does NumberRaised (after_swap o' c))
      by None = into (Validate 0) refl refl refl refl refl
      by (Some f) = cond_both (ltb f c) _ _ (λ q. S (Swap o c) (does NumberRaised q)) (λ e. into (Validate 0) refl refl refl refl refl) (λ e. into (Mark 0) refl refl refl refl refl)
  steady (Validate i) n l = cond_both (stale g s (get_or (entries s) i 0)) _ _ (S (Validate i))
      (λ e. on (Validate i) LetGo refl (omega arith) (omega arith) (omega arith) refl)
      (λ e. cond_both (ltb (i + 1) (length (entries s))) _ _ (S (Validate i))
      (λ q. on (Validate i) (Validate (i + 1)) refl (omega (arith, few, ltb-true (i + 1) (length (entries s)) q)) (omega arith) (omega arith) refl)
      (λ q. on (Validate i) (Mark 0) refl (omega arith) (omega arith) (omega arith) refl))
  steady (Mark i) n l = record { chair = refl; near = n; plain = λ _. tt; few_reads = fr; few_writes = fw; below = omega arith; above = omega arith; queue = refl; lowering = tt }
  steady (Cell i) n l = cond_both (ltb (i + 1) (length s.writes)) _ _ (λ q. S (Cell i) (does (CellSet (get_or s.writes i no_entry).cell (get_or s.writes i no_entry).amount) q))
      (λ q. record { chair = refl; near = omega (arith, fw, ltb-true (i + 1) (length s.writes) q); plain = λ _. tt; few_reads = fr; few_writes = fw; below = omega arith; above = omega arith; queue = refl; lowering = tt })
      (λ q. record { chair = refl; near = omega arith; plain = λ _. tt; few_reads = fr; few_writes = fw; below = omega arith; above = omega arith; queue = refl; lowering = tt })
  steady Release n l = by s.way refl
    where
      by : (y : Way) → s.way ≡ y → S Release (release_step g.core.number y)
      by One w = record { chair = tt; near = tt; plain = λ _. tt; few_reads = fr; few_writes = fw; below = omega arith; above = omega arith; queue = sym (ap (λ y. joined y Release) w); lowering = tt }
      by Two w = record { chair = refl; near = omega arith; plain = λ _. tt; few_reads = fr; few_writes = fw; below = omega arith; above = omega arith; queue = refl; lowering = tt }
      by Three w = record { chair = refl; near = omega arith; plain = λ _. tt; few_reads = fr; few_writes = fw; below = omega arith; above = omega arith; queue = refl; lowering = tt }
  steady LetGo n l = by s.way refl
    where
      by : (y : Way) → s.way ≡ y → S LetGo (let_go_step y)
      by One w = record { chair = refl; near = omega arith; plain = λ _. tt; few_reads = fr; few_writes = fw; below = omega arith; above = omega arith; queue = ap (λ y. joined y Begin) w ∙ sym (ap (λ y. joined y LetGo) w); lowering = refl }
      by Two w = record { chair = refl; near = omega arith; plain = λ _. tt; few_reads = fr; few_writes = fw; below = omega arith; above = omega arith; queue = refl; lowering = refl }
      by Three w = record { chair = refl; near = omega arith; plain = λ _. tt; few_reads = fr; few_writes = fw; below = omega arith; above = omega arith; queue = refl; lowering = refl }
  steady Quit n l = record { chair = refl; near = omega arith; plain = λ _. tt; few_reads = fr; few_writes = fw; below = omega arith; above = omega arith; queue = omega arith; lowering = tt }
  steady Leave n l = record { chair = tt; near = tt; plain = λ _. tt; few_reads = fr; few_writes = fw; below = omega arith; above = omega arith; queue = refl; lowering = tt }

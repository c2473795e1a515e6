-- One page of promises: what 01 and the requests require to be proved, in their order, each restated under its sentence and proved by the law
-- that states it. Contracts promise the rest: every function's outcome for all input, by an equation with its definition. Assumes nothing.
use Rattle.std.specs.Prelude.{◌≡◌, refl, true, false, List, [], ◌++◌, ℕ, ◌+◌, ◌*◌, ◌^◌, ◌≤◌, ◌<◌, min, Float, length, take}
use Rattle.std.specs.Float.{nan, inf}
use Rattle.std.specs.Float.Ieee.{le, lt}
use Rattle.model.specs.Numbers.{at}
use Rattle.model.specs.Flow.{outflow_of, entering_of}
use Rattle.flow.specs.Division.{divided_of}
use Rattle.flow.specs.FlowLaws as flow
use Rattle.flow.specs.Division as paper
use Rattle.model.specs.declared.Road.{Road}
use Rattle.model.specs.declared.State.{State}
use Rattle.model.specs.declared.Start.{Start}
use Rattle.model.specs.declared.Refusal.{Refusal}
use Rattle.model.specs.declared.Wanted.{Wanted}
use Rattle.model.specs.Road.{most_rate, start_in, total_of}
use Rattle.model.specs.Refusals.{refusal_number, fault}
use Rattle.model.specs.Record.{second_version, version_of, row_numbers}
use Rattle.limits.specs.LimitsLaws.{RoadOk}
use Rattle.model.specs.Load.{load_with, loading_of, loaded_list, LoadEnds}
use Rattle.load.specs.Theorems as loads
use Rattle.model.specs.Wanted.{TableObeys, search_answer, wanted_answer, wanted_of, table_after, Least, WantedEnds, WantedRequest}
use Rattle.wanted.proofs.Theorems as wants
use Rattle.model.specs.Street.{GrantRequest, grants_of, granting_of, grants_after, Fair, GrantEnds}
use Rattle.street.proofs.Theorems as streets
use Rattle.model.specs.Meter.{whole_below, count}
use Rattle.meter.specs.MeterLaws as meters
use Rattle.model.specs.declared.Law.{Law}
use Rattle.model.specs.Move.{present_of, exits_of, next_of}
use Rattle.theory.specs.Conservation.{arrivals_of}
use Rattle.model.specs.Schedules.{Study, ReleasesFit, outflows_of, schedule_after, engine_after, ObeysUpTo, proposed_at, scheduled_at}
use Rattle.theory.specs.RulesLaws.{Sized}
use Rattle.theory.specs.RunsLaws.{ReleasesFitUpTo, StudyOk}
use Rattle.theory.specs.BetterRoad.{BetterRoad}
use Rattle.theory.proofs.Conservation as conservation
use Rattle.theory.specs.Edges as edges
use Rattle.model.specs.Reading.{cells_of, reading_of, reading_within, refused_of, accepted_of, study_of}
use Rattle.reading.specs.Versions.{first_reading_of}
use Rattle.reading.specs.Cases.{AcceptedRecord}
use Rattle.reading.specs.Within as within
use Rattle.reading.specs.Versions as versions
use Rattle.reading.specs.Caller as callers
use Rattle.model.specs.Put.{putting_of, released_record, Ramp, ReleasePut, PutEnds, PutRequest}
use Rattle.put.specs.Theorems as puts
use Rattle.model.specs.Writing.{writing_of, target_after}
use Rattle.writing.specs.Theorems as saving
use Rattle.taking.specs.TakenRows as taking
use Rattle.model.specs.Joining.{joined_road, joined_start, joining_of, joined_target}
use Rattle.joining.specs.Theorems as joins
use Rattle.model.specs.Judging.{judging_of}
use Rattle.model.specs.Running.{run_fault, first_step, run_end, running_of, list_after, steps_made}
use Rattle.model.specs.GoingOn.{state_fault}
use Rattle.model.specs.Demand.{Openable, DemandAndGrounds, WeightedDemand, Reaches, Ahead, AcceptsExactly}
use Rattle.theory.proofs.DemandWhole as whole
use Rattle.model.specs.Weights.{weighted_total_of_run}
use Rattle.theory.proofs.DemandByWeights as weighting
use Rattle.theory.specs.WeightsUnread as unread
use Rattle.theory.proofs.BetterRoadRuns as improving
use Rattle.theory.specs.BetterRoadNotEmpty.{FasterRoad}
use Rattle.theory.proofs.BetterRoadNotEmpty as worked
use Rattle.theory.specs.Accounts.{Accounts}
use Rattle.theory.proofs.Accounts as accounting
use Rattle.theory.proofs.AcceptsExactly as judged
use Rattle.theory.specs.NoClosures.{plain_running, plain_judging, plain_list}
use Rattle.theory.proofs.NoClosures as unclosed
use Rattle.theory.specs.Finer.{scaled}
use Rattle.theory.specs.WholeShares.{SharesWhole}
use Rattle.theory.specs.AnyShares.{Most}
use Rattle.theory.specs.NearRuns.{Deciding}
use Rattle.theory.specs.Rounding as bounds
use Rattle.theory.proofs.Rounding as rounds
use Rattle.theory.specs.Totals.{SharesNotZero, NearTotal, AboveByShares}
use Rattle.theory.proofs.Totals as totals
use Rattle.model.specs.Filling.{MeterState}
use Rattle.model.specs.Filling.{metered_from, filling_of, record_after, filled_list, OnlyReleases}
use Rattle.filling.specs.Theorems as filling
use Rattle.freeway.specs.Answers as answers
use Rattle.freeway.specs.PutRun as putting
use Rattle.freeway.specs.WantedRun as wanted_run
use Rattle.freeway.specs.WantedPut as wanted_put
use Rattle.freeway.specs.JoinedRun as joined_run
use Rattle.freeway.specs.GoingOnWhole as stretches
use Rattle.theory.specs.GoingOn.{Rest, EndsAs}
use Rattle.theory.proofs.GoingOn as onward

-- 01, forms. Each case of an answer has its number and values, and no two cases have the same; the other types of answers are in `Answers`
pub refusal_settled : (q p : Refusal) → refusal_number q ≡ refusal_number p → q ≡ p
refusal_settled = answers.refusal_same

pub wanted_settled : (x y : Wanted) → wanted_answer x ≡ wanted_answer y → x ≡ y
wanted_settled = answers.wanted_same

-- 01, one step. The outflow is the greatest that the demand allows and whose entering part fits the room
pub outflow_greatest : (b F room d y : ℕ) → y ≤ d → entering_of b F y ≤ room → y ≤ outflow_of b F room d
outflow_greatest = flow.outflow_greatest

pub outflow_allowed : (b F room d : ℕ) → (outflow_of b F room d ≤ d) × (entering_of b F (outflow_of b F room d) ≤ room)
outflow_allowed b F room d = (flow.outflow_le b F room d, flow.outflow_fits b F room d)

-- a step loses nobody: present, exits and the step's arrivals before it are present and exits after it. For whole tables: `conserved` of `accounts`
pub conserved : (r : Road) (s : State) (row : List ℕ) → RoadOk r → Sized r s → ReleasesFit r s row
    → present_of r s + exits_of r s + arrivals_of r row
    ≡ present_of r (next_of r s row (outflows_of r s row)) + exits_of r (next_of r s row (outflows_of r s row))
conserved = conservation.engine_conserved

-- the starred edges, as one fact about a table of rules
pub starred : edges.StarredEdges
starred = edges.starred_edges

-- 01, reading. A record that reads is within every limit
pub read_within_lem : (s : List ℕ) → (reading_of s).number ≡ 0 → AcceptedRecord s (reading_of s).steps (reading_of s).road (reading_of s).state
read_within_lem s h = within.read_within_lem s (reading_of s) refl h

-- 'the rounding decides where they say nothing': how far F is from that of the same study counted K times finer. After every step that both reach
-- the difference is at most 2 k parts, divided by the part of the traffic that reaches the end; less if all that leaves a cell goes on
pub rounding : (bytes lanes : List ℕ) → Openable bytes lanes → (K : ℕ) → 0 < K → bounds.Within lanes K → (k : ℕ)
    → ReleasesFitUpTo (study_of bytes lanes) k → ReleasesFitUpTo (scaled K (study_of bytes lanes)) k
    → bounds.Near K k (study_of bytes lanes).road (engine_after (study_of bytes lanes) k) (engine_after (scaled K (study_of bytes lanes)) k)
rounding bytes lanes openable K some within k own fine = rounds.rounding (rounds.finer_ready bytes lanes openable K some within) k own fine

pub rounding_whole : (bytes lanes : List ℕ) → Openable bytes lanes → (K : ℕ) → 0 < K → bounds.Within lanes K → (k : ℕ)
    → ReleasesFitUpTo (study_of bytes lanes) k → SharesWhole (study_of bytes lanes).road → ReleasesFitUpTo (scaled K (study_of bytes lanes)) k
    → bounds.NearWhole K k (study_of bytes lanes).road (engine_after (study_of bytes lanes) k) (engine_after (scaled K (study_of bytes lanes)) k)
rounding_whole bytes lanes openable K some within k own on fine =
    rounds.rounding_whole (rounds.finer_ready bytes lanes openable K some within) k own on fine

-- present and the total, if some of what leaves each cell goes on
pub rounding_total : (bytes lanes : List ℕ) → Openable bytes lanes → (K : ℕ) → 0 < K → bounds.Within lanes K → SharesNotZero (study_of bytes lanes).road
    → (k : ℕ) → ReleasesFitUpTo (study_of bytes lanes) k → ReleasesFitUpTo (scaled K (study_of bytes lanes)) k
    → NearTotal K k (study_of bytes lanes).road (engine_after (study_of bytes lanes) k) (engine_after (scaled K (study_of bytes lanes)) k)
rounding_total bytes lanes openable K some within on k own fine =
    totals.rounding_total (rounds.finer_ready bytes lanes openable K some within) on k own fine

-- the same bound for every schedule of the finer study in which demand or room decides, as in the papers' rules
pub rounding_papers : (bytes lanes : List ℕ) → Openable bytes lanes → (K : ℕ) → 0 < K → bounds.Within lanes K → (k : ℕ)
    → ReleasesFitUpTo (study_of bytes lanes) k → (zs : ℕ → List ℕ) → ObeysUpTo (scaled K (study_of bytes lanes)) zs k
    → Deciding (scaled K (study_of bytes lanes)) zs k
    → bounds.Near K k (study_of bytes lanes).road (engine_after (study_of bytes lanes) k) (schedule_after (scaled K (study_of bytes lanes)) zs k)
rounding_papers bytes lanes openable K some within k own zs fine decide =
    rounds.papers_near (rounds.finer_ready bytes lanes openable K some within) k own zs fine decide

-- demand 3 within that bound: no schedule of the finer study is further ahead
pub rounding_schedules : (bytes lanes : List ℕ) → Openable bytes lanes → (K : ℕ) → 0 < K → bounds.Within lanes K → (k : ℕ)
    → ReleasesFitUpTo (study_of bytes lanes) k → (zs : List ℕ) → Reaches (scaled K (study_of bytes lanes)) zs k
    → Most K (2 * k * K) (study_of bytes lanes).road (engine_after (study_of bytes lanes) k) (scheduled_at (scaled K (study_of bytes lanes)) zs k)
rounding_schedules bytes lanes openable K some within k own zs reaches =
    rounds.finer_schedules (rounds.finer_ready bytes lanes openable K some within) k own zs reaches

pub rounding_schedules_total : (bytes lanes : List ℕ) → Openable bytes lanes → (K : ℕ) → 0 < K → bounds.Within lanes K
    → SharesNotZero (study_of bytes lanes).road → (k : ℕ) → ReleasesFitUpTo (study_of bytes lanes) k
    → (zs : List ℕ) → Reaches (scaled K (study_of bytes lanes)) zs k
    → AboveByShares K k (study_of bytes lanes).road (engine_after (study_of bytes lanes) k) (scheduled_at (scaled K (study_of bytes lanes)) zs k)
rounding_schedules_total bytes lanes openable K some within on k own zs reaches =
    totals.finer_schedules_total (rounds.finer_ready bytes lanes openable K some within) on k own zs reaches

-- demand 2. A proposed schedule is accepted if it obeys the rules and otherwise refused
pub accepts_exactly : (bytes lanes zs : List ℕ) → AcceptsExactly bytes lanes zs (judging_of bytes lanes zs)
accepts_exactly bytes lanes zs = judged.accepts_exactly bytes lanes zs refl

-- the times and the total are the sums of present over the steps done, for gate, road and ramps and together; start plus arrivals equals present plus exits
pub accounts : (bytes lanes zs : List ℕ) → Openable bytes lanes → (k : ℕ) → Reaches (study_of bytes lanes) zs k → Accounts (study_of bytes lanes) zs k
accounts = accounting.accounts

-- demand 3, for every record that reads and every schedule (`Demand`, with the meaning of its words)
pub demand_three : (bytes lanes : List ℕ) → Openable bytes lanes → (list : List ℕ)
    → DemandAndGrounds bytes lanes (list_after bytes lanes list) (running_of bytes lanes list)
demand_three = whole.demand_and_grounds

-- request 1. A written record reads back as given; bytes beyond it are unchanged
pub written_back : (road : Road) (T : ℕ) (start : Start) (rows target : List ℕ) → (writing_of road T start rows target).number ≡ 0
    → saving.SavedRecord road T start rows target
written_back = saving.saved_record

-- a record that was read and is written again has the same bytes, with its rows taken into any list that has room for them
pub written_again : (s : List ℕ) → (reading_of s).number ≡ 0 → (list : List ℕ) → (reading_of s).steps * row_numbers (reading_of s).road.n ≤ length list
    → ((i : ℕ) → at s i < 256) → (target : List ℕ) → length s ≤ length target
    → take (length s) (target_after (reading_of s).road (reading_of s).steps (start_in (reading_of s).state)
    (taking.taken_numbers s (reading_of s).road.n (reading_of s).steps list) target) ≡ s
written_again = taking.same_bytes

-- every refusal leaves the target unchanged, and the count is 0
pub unwritten : (road : Road) (T : ℕ) (start : Start) (rows target : List ℕ) → ((writing_of road T start rows target).number ≡ 0 → ⊥)
    → (target_after road T start rows target ≡ target) × ((writing_of road T start rows target).count ≡ 0)
unwritten = saving.unsaved

-- request 3. The release is the greatest whole number not above the wish, under a cap of 32 bits; 0 for a wish that is negative or not a number;
-- positive infinity gives the cap
pub whole_greatest : (x : Float) (cap k : ℕ) → 0 < k → k ≤ cap → cap < 2 ^ 32 → le (count k) x ≡ true → k ≤ whole_below x cap
whole_greatest = meters.whole_greatest

pub whole_not_above : (x : Float) (cap : ℕ) → 0 < whole_below x cap → cap < 2 ^ 32 → le (count (whole_below x cap)) x ≡ true
whole_not_above = meters.whole_not_above

pub whole_none : (x : Float) (cap : ℕ) → (whole_below nan cap ≡ 0) × (lt x (count 0) ≡ true → whole_below x cap ≡ 0)
whole_none x cap = (meters.whole_nan cap, meters.whole_negative x cap)

pub whole_infinite : (cap : ℕ) → whole_below (inf false) cap ≡ cap
whole_infinite = meters.whole_infinite

-- filling changes only the record's releases
pub only_releases : (laws : List Law) (bytes lanes list : List ℕ) → OnlyReleases bytes (record_after laws bytes lanes list)
only_releases = filling.only_releases

-- unless filling is refused with 16, its list, road and state are those of running the filled record
pub rerun : (laws : List Law) (bytes lanes list : List ℕ) → ((filling_of laws bytes lanes list).number ≡ 16 → ⊥) → filling.Rerun laws bytes lanes list
rerun = filling.rerun

-- rival schedules have the same filled releases
pub filled : (laws : List Law) (bytes lanes list : List ℕ) → Openable bytes lanes
    → DemandAndGrounds (record_after laws bytes lanes list) lanes (filled_list laws bytes lanes list) (filling_of laws bytes lanes list)
filled = filling.filled_promised

-- request 4. The division and the greatest outflow are the same number, for every demand, share, F and room
pub division : (share F room demand : ℕ) → divided_of share F room demand ≡ outflow_of share F room demand
division = paper.divided_is_greatest

-- request 6. An empty table means that all lanes are open: running, judging and the list are those of a model without closures
pub all_open_lem : (bytes list zs : List ℕ)
    → (running_of bytes [] list ≡ plain_running bytes list)
    × ((judging_of bytes [] zs ≡ plain_judging bytes zs) × (list_after bytes [] list ≡ plain_list bytes list))
all_open_lem bytes list zs = (unclosed.empty_runs bytes list, (unclosed.empty_judges bytes zs, unclosed.empty_writes bytes list))

-- request 7. A version 1 record reads as before; a reader that knows only version 1 refuses version 2 with 2, unless its length is refused
pub read_as_before : (s : List ℕ) → (version_of s ≡ second_version → ⊥) → reading_of s ≡ first_reading_of s
read_as_before = versions.first_reader_same

pub first_refuses : (s : List ℕ) → version_of s ≡ second_version → ((reading_of s).number ≡ 1 → ⊥) → first_reading_of s ≡ refused_of 2 0
first_refuses = versions.first_refuses

-- request 8. If no place weighs more than the one before it, gate first, the run's weighted total is at most every schedule's over the steps both reach
pub weighted : (bytes lanes : List ℕ) → Openable bytes lanes → (list : List ℕ) (w u : ℕ → ℕ)
    → WeightedDemand bytes lanes w u (list_after bytes lanes list) (running_of bytes lanes list) (weighted_total_of_run w u bytes lanes list)
weighted = weighting.weighted_demand

-- weights past cell n are not read
pub weights_unread : (bytes lanes : List ℕ) (w v u x : ℕ → ℕ) → ((p : ℕ) → p ≤ (study_of bytes lanes).road.n → w p ≡ v p)
    → ((i : ℕ) → i < (study_of bytes lanes).road.n → u i ≡ x i) → (list : List ℕ)
    → weighted_total_of_run w u bytes lanes list ≡ weighted_total_of_run v x bytes lanes list
weights_unread = unread.run_unread

-- a larger v, w, J or C of cells never makes the total larger, after every step that both roads reach; releases, start, arrivals and closures are the same
pub better_road : (s t lanes : List ℕ) → Openable s lanes → Openable t lanes → BetterRoad (study_of s lanes) (study_of t lanes) → (list out : List ℕ) (k : ℕ)
    → k ≤ steps_made (study_of s lanes) (running_of s lanes list) → k ≤ steps_made (study_of t lanes) (running_of t lanes out)
    → Ahead (study_of s lanes).road (engine_after (study_of t lanes) k) (engine_after (study_of s lanes) k)
better_road = improving.better_steps

-- so, if both accept, the total returned is not larger; and an example in which it falls
pub better_road_accepted : (s t lanes : List ℕ) → Openable s lanes → Openable t lanes → BetterRoad (study_of s lanes) (study_of t lanes) → (list out : List ℕ)
    → (running_of s lanes list).number ≡ 0 → (running_of t lanes out).number ≡ 0
    → total_of (running_of t lanes out).state ≤ total_of (running_of s lanes list).state
better_road_accepted = improving.better_accepted

pub faster_road : FasterRoad
faster_road = worked.faster_road

-- request 9. The result reads without refusal, as upstream's cells, then downstream's, with the stated share at the joint
pub joined : (up down : List ℕ) (share : ℕ) (target : List ℕ) → (joining_of up down share target).number ≡ 0
    → reading_of (joins.joined_bytes up down share target)
    ≡ accepted_of (reading_of up).steps (joined_road (reading_of up).road (reading_of down).road share)
    (joined_start (reading_of up).road.n (reading_of down).road.n (reading_of up).state (reading_of down).state)
joined = joins.joined_reads

-- 'the second gate is dropped, and all else stands as it was', place by place
pub joined_reading : (up down : List ℕ) (share : ℕ) (target : List ℕ) → (joining_of up down share target).number ≡ 0
    → joins.JoinedReading share (reading_of up) (reading_of down) (reading_of (joins.joined_bytes up down share target))
joined_reading = joins.joined_reading

-- rows joined step by step
pub joined_row_lem : (up down : List ℕ) (share : ℕ) (target : List ℕ) → (joining_of up down share target).number ≡ 0 → (t : ℕ) → t < (reading_of up).steps
    → joins.RowJoined up down (joins.joined_bytes up down share target) t
joined_row_lem = joins.joined_row_numbers

-- the refusals of joining, each with everything before it; no refusal changes the target
pub joined_ends : (up down : List ℕ) (share : ℕ) (target : List ℕ)
    → joins.Ends up down share target (joining_of up down share target) (joined_target up down share target)
joined_ends = joins.ends

-- the joined record reads, so demand 3 holds for it
pub joined_compared : (up down : List ℕ) (share : ℕ) (target : List ℕ) → (joining_of up down share target).number ≡ 0 → (lanes : List ℕ)
    → Openable (joins.joined_bytes up down share target) lanes → (list : List ℕ)
    → DemandAndGrounds (joins.joined_bytes up down share target) lanes (list_after (joins.joined_bytes up down share target) lanes list)
    (running_of (joins.joined_bytes up down share target) lanes list)
joined_compared = joined_run.joined_promised

-- request 10. The table found obeys, and no table that obeys has a smaller running sum after any step; no other table has this property
pub least : (start ceiling rate : ℕ) (arrivals table : List ℕ) → (wanted_of start ceiling rate arrivals (length table)).found ≡ true
    → Least start ceiling rate arrivals (table_after start ceiling rate arrivals table)
least = wants.found_least

pub least_only : (start ceiling rate : ℕ) (arrivals : List ℕ) {one other : List ℕ} → Least start ceiling rate arrivals one
    → Least start ceiling rate arrivals other → one ≡ other
least_only = wants.least_unique

-- the answer is none exactly if, within the limits of 23, no table obeys; the lent table is then unchanged
pub none_only : (start ceiling rate : ℕ) (arrivals table : List ℕ) → wanted_of start ceiling rate arrivals (length table) ≡ search_answer 0 true false
    → (other : List ℕ) → TableObeys start ceiling rate arrivals other → ⊥
none_only = wants.none_only

pub none_if : (start ceiling rate : ℕ) (arrivals table : List ℕ) → WantedRequest start ceiling rate arrivals (length table)
    → ((other : List ℕ) → TableObeys start ceiling rate arrivals other → ⊥)
    → (wanted_of start ceiling rate arrivals (length table) ≡ search_answer 0 true false) × (table_after start ceiling rate arrivals table ≡ table)
none_if = wants.none_if

-- 23 applies exactly if a limit is broken; the lent table is then unchanged
pub wanted_refused : (start ceiling rate : ℕ) (arrivals table : List ℕ) → (wanted_of start ceiling rate arrivals (length table)).number ≡ 23
    → WantedRequest start ceiling rate arrivals (length table) → ⊥
wanted_refused = wants.refused_only

pub wanted_refused_if : (start ceiling rate : ℕ) (arrivals table : List ℕ) → (WantedRequest start ceiling rate arrivals (length table) → ⊥)
    → (wanted_of start ceiling rate arrivals (length table) ≡ search_answer 23 false false) × (table_after start ceiling rate arrivals table ≡ table)
wanted_refused_if = wants.refused_if

-- there is no other case
pub wanted_ends : (start ceiling rate : ℕ) (arrivals table : List ℕ)
    → WantedEnds start ceiling rate arrivals table (wanted_of start ceiling rate arrivals (length table)) (table_after start ceiling rate arrivals table)
wanted_ends = wants.ends

-- 'running checks it': a ramp has the start queue, the arrivals and the releases of a table that obeys. Then running never refuses that ramp with 9
pub never_nine : (bytes lanes : List ℕ) → Openable bytes lanes → (i start ceiling rate : ℕ) (arrivals table : List ℕ)
    → wanted_run.Follows (study_of bytes lanes) i start arrivals table → TableObeys start ceiling rate arrivals table
    → (list : List ℕ) → (running_of bytes lanes list).number ≡ 9 → (running_of bytes lanes list).place ≡ i + 1 → ⊥
never_nine = wanted_run.running_never_nine

-- a table found for a ramp's own queue and arrivals is put into the record without a refusal, and the record's run then keeps the queue
pub found_put : (bytes lanes : List ℕ) → Openable bytes lanes → (i : ℕ) → Ramp (reading_of bytes).road.ramp (reading_of bytes).road.n (i + 1)
    → (ceiling rate : ℕ) (lent : List ℕ)
    → (wanted_of (at (reading_of bytes).state.queue i) ceiling rate (wanted_put.ramp_arrivals bytes i) (length lent)).found ≡ true
    → wanted_put.QueueKept bytes lanes i ceiling
    (table_after (at (reading_of bytes).state.queue i) ceiling rate (wanted_put.ramp_arrivals bytes i) lent)
    (wanted_put.put_steps bytes (i + 1) (table_after (at (reading_of bytes).state.queue i) ceiling rate (wanted_put.ramp_arrivals bytes i) lent)
    (reading_of bytes).steps)
found_put = wanted_put.found_kept

-- request 11. The sum of the grants never exceeds the limit; no ramp gets more than its wish, or less than the smaller of wish and guarantee; what
-- remains goes in ramp order; either the whole limit is granted or every wish. No other grants have these properties
pub fair : (limit : ℕ) (guarantees wishes : List ℕ) → GrantRequest limit guarantees wishes
    → Fair limit guarantees wishes (grants_of limit guarantees wishes)
fair = streets.fair

pub fair_only : {limit : ℕ} {guarantees wishes : List ℕ} → GrantRequest limit guarantees wishes → (grants : List ℕ)
    → Fair limit guarantees wishes grants → grants ≡ grants_of limit guarantees wishes
fair_only = streets.fair_unique

-- this holds whatever the others wish
pub whatever_others_wish : (limit : ℕ) (guarantees : List ℕ) (i wish : ℕ) → i < length guarantees → (wishes : List ℕ) → at wishes i ≡ wish
    → min wish (at guarantees i) ≤ at (grants_of limit guarantees wishes) i
whatever_others_wish = streets.whatever_others_wish

-- either 24 or the grants, and no other case; 24 leaves the lent grants unchanged
pub granted_ends : (limit : ℕ) (guarantees wishes grants : List ℕ)
    → GrantEnds limit guarantees wishes grants (granting_of limit guarantees wishes (length grants)) (grants_after limit guarantees wishes grants)
granted_ends = streets.ends

-- putting never refuses a granted release for its size
pub granted_put : (limit : ℕ) (guarantees wishes : List ℕ) → GrantRequest limit guarantees wishes → (i : ℕ) → i < length guarantees
    → (bytes : List ℕ) (step cell : ℕ) → (reading_of bytes).number ≡ 0 → Ramp (reading_of bytes).road.ramp (reading_of bytes).road.n cell
    → step < (reading_of bytes).steps → putting_of bytes step cell (at (grants_of limit guarantees wishes) i) ≡ fault 0 0
granted_put = putting.granted_put

-- putting a release into a record changes nothing else in it
pub put : (bytes : List ℕ) (step cell release : ℕ) → (putting_of bytes step cell release).number ≡ 0
    → PutRequest bytes step cell release × ReleasePut bytes (released_record bytes step cell release) step cell release
put = puts.puts

-- each refusal with everything before it, and the record that it leaves
pub put_ends : (bytes : List ℕ) (step cell release : ℕ)
    → PutEnds bytes step cell release (putting_of bytes step cell release) (released_record bytes step cell release)
put_ends = puts.ends

-- a run that makes that step has checked the release against queue and supply
pub put_checked : (bytes lanes : List ℕ) → Openable bytes lanes → (step cell release : ℕ) → (putting_of bytes step cell release).number ≡ 0 → (list : List ℕ)
    → step < steps_made (study_of (released_record bytes step cell release) lanes) (running_of (released_record bytes step cell release) lanes list)
    → (i : ℕ) → i + 1 ≡ cell → putting.ReleaseChecked (study_of (released_record bytes step cell release) lanes)
    (list_after (released_record bytes step cell release) lanes list) step release i
put_checked = putting.put_checked

-- each road is then compared with its own rivals
pub put_compared : (bytes lanes : List ℕ) → Openable bytes lanes → (step cell release : ℕ) → (putting_of bytes step cell release).number ≡ 0 → (list : List ℕ)
    → DemandAndGrounds (released_record bytes step cell release) lanes (list_after (released_record bytes step cell release) lanes list)
    (running_of (released_record bytes step cell release) lanes list)
put_compared = putting.put_promised

-- request 12. No arrival is above the peak, and a load can be continued
pub at_most_peak : (seed peak : ℕ) (list : List ℕ) → peak ≤ most_rate → (k : ℕ) → k < length list → at (loaded_list seed peak list) k ≤ peak
at_most_peak = loads.at_most_peak

pub goes_on : (seed peak : ℕ) (first second : List ℕ)
    → loaded_list seed peak (first ++ second) ≡ loaded_list seed peak first ++ loaded_list (loading_of seed peak (length first)).last peak second
goes_on = loads.goes_on

-- 25 applies exactly if the peak is above 1,000,000; it leaves the list unchanged and returns the seed
pub peak_refused : (seed peak n : ℕ) → (loading_of seed peak n).number ≡ 25 → most_rate < peak
peak_refused = loads.refused_exactly

pub peak_refused_if : (seed peak : ℕ) (list : List ℕ) → most_rate < peak
    → (loading_of seed peak (length list) ≡ load_with 25 seed) × (loaded_list seed peak list ≡ list)
peak_refused_if = loads.refused_if

-- the only other case is the seed's arrivals in their order, with the last number
pub loaded_ends : (seed peak : ℕ) (list : List ℕ) → LoadEnds seed peak list (loading_of seed peak (length list)) (loaded_list seed peak list)
loaded_ends = loads.ends

-- request 14. For every pair of limits, 26 applies exactly if no refusal before it does and n or the count of bytes is above the pair
pub caller_beyond : (s : List ℕ) (cells most : ℕ) → callers.Beyond cells most s → reading_within cells most s ≡ refused_of 26 0
caller_beyond = callers.beyond_refused

pub caller_only : (s : List ℕ) (cells most : ℕ) → (reading_within cells most s).number ≡ 26 → callers.Beyond cells most s
caller_only = callers.refused_beyond

-- a record within the pair is read as without it; `printing/PrintedLaws` states what is then printed
pub caller_same : (s : List ℕ) (cells most : ℕ) → cells_of s ≤ cells → length s ≤ most → reading_within cells most s ≡ reading_of s
caller_same = callers.within_kept

-- a larger pair refuses no accepted record
pub caller_larger : (s : List ℕ) (cells most more longer : ℕ) → cells ≤ more → most ≤ longer → ((reading_within cells most s).number ≡ 26 → ⊥)
    → reading_within more longer s ≡ reading_within cells most s
caller_larger = callers.within_larger

-- going on from a state: b is the rest of a after k steps without a fault. Going on is not refused with 7 or 8, and the whole ends as the rest does.
-- No schedule of the whole is ahead of a run in stretches
pub stretch_starts : {a b : Study} {k : ℕ} → Rest a b k → StudyOk a → ((j : ℕ) → j < k → (run_fault a j).number ≡ 0) → b.start ≡ engine_after a k
    → state_fault b ≡ 0
stretch_starts h ok none s = stretches.starts_rest h ok none s

pub stretch_ends : {a b : Study} {k : ℕ} → Rest a b k → b.start ≡ engine_after a k → ((j : ℕ) → j < k → (run_fault a j).number ≡ 0)
    → EndsAs a b k (run_end a) (run_end b)
stretch_ends h s none = onward.run_rest h s none

pub stretch_best : {a b : Study} {k : ℕ} → Rest a b k → b.start ≡ engine_after a k → StudyOk a → ((j : ℕ) → j < k → (run_fault a j).number ≡ 0)
    → (zs : List ℕ) (j : ℕ) → j ≤ first_step (run_fault b) b.steps → ObeysUpTo a (proposed_at a zs) (k + j)
    → Ahead a.road (engine_after b j) (scheduled_at a zs (k + j))
stretch_best h s ok none zs j l obeys = stretches.best_rest h s ok none zs j l obeys

-- filling's wishes are computed from the same numbers in the rest as in the whole
pub stretch_filled : {a b : Study} {k : ℕ} → Rest a b k → (laws : List Law) (m p : MeterState) → p ≡ metered_from laws a m k
    → (j : ℕ) → j ≤ b.steps → metered_from laws b p j ≡ metered_from laws a m (k + j)
stretch_filled = onward.metered_rest

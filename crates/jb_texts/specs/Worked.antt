-- Worked loads and a worked run, and what is printed for them, written out apart from the program.
use Rattle.std.specs.Prelude.{ℕ, ◌-◌, List, [], ◌∷◌, codes}
use Rattle.jb_cert.specs.Load.{Load}
use Rattle.jb_cert.specs.declared.certificates.Certificate.TheVariants.{Longest}
use Rattle.jb_collect.specs.declared.calls.AnalyzerCall.TheVariants as heard
use Rattle.jb_collect.specs.declared.calls.ReducerCall.TheVariants.{Begin, Before, After}
use Rattle.jb_collect.specs.declared.calls.PartitionStatus.TheVariants as end
use Rattle.jb_collect.specs.declared.calls.Status.TheVariants.{Completed}
use Rattle.jb_rules.specs.declared.row.Row.{Row}
use Rattle.jb_rules.specs.declared.row.RowState.TheVariants.{Finished}
use Rattle.jb_texts.specs.Report.{Report}

-- full load: three equal partitions on two threads
abbrev pub three_equal : Load
three_equal = record { counts = 3 ∷ 3 ∷ 3 ∷ []; threads = 2 }

abbrev pub three_equal_text : List ℕ
three_equal_text = codes "rounds 5 FullLoad\n0: 0.0 1.0\n1: 0.1 2.0\n2: 0.2 2.1\n3: 1.1 2.2\n4: 1.2 -\n"

-- one long partition on three threads
abbrev pub one_long : Load
one_long = record { counts = 5 ∷ 1 ∷ 1 ∷ []; threads = 3 }

abbrev pub one_long_text : List ℕ
one_long_text = codes "rounds 5 Longest(0)\n0: 0.0 1.0 -\n1: 0.1 2.0 -\n2: 0.2 - -\n3: 0.3 - -\n4: 0.4 - -\n"

-- nothing to plan
abbrev pub nothing : Load
nothing = record { counts = 0 ∷ 0 ∷ []; threads = 4 }

-- seven records in three partitions on two threads
abbrev pub finished_row : (lo hi redo commits : ℕ) → Row
finished_row lo hi redo commits = record {
  lo = lo;
  hi = hi;
  at = hi;
  redo = redo;
  retries = 0;
  written = hi - lo;
  counts = record { read = hi - lo; write = hi - lo; commit = commits; rollback = 0; read_skip = 0; process_skip = 0; filter = 0; write_skip = 0 };
  in_place = 0;
  state = Finished;
}

abbrev pub seven_records : Report
seven_records = record {
  job = codes "j";
  status = Completed;
  steps = record {
    id = codes "s";
    status = Completed;
    partitions = record { row = finished_row 0 3 0 2; outputs = codes "xa" ∷ codes "xb" ∷ codes "xc" ∷ [] }
        ∷ record { row = finished_row 3 5 3 1; outputs = codes "xd" ∷ codes "xe" ∷ [] }
        ∷ record { row = finished_row 5 7 5 1; outputs = codes "xf" ∷ codes "xg" ∷ [] } ∷ [];
    heard = heard.Collected 0 (codes "0:2:2") ∷ heard.Collected 1 (codes "1:5:2") ∷ heard.Collected 1 (codes "1:5:2:end") ∷ heard.Status 1 Completed
        ∷ heard.Collected 0 (codes "0:3:3") ∷ heard.Collected 0 (codes "0:3:3:end") ∷ heard.Status 0 Completed
        ∷ heard.Collected 2 (codes "2:7:2") ∷ heard.Collected 2 (codes "2:7:2:end") ∷ heard.Status 2 Completed ∷ [];
    plans = record { certificate = Longest 0; planned = 2; ran = 2 } ∷ [];
    reducer = Begin ∷ Before ∷ After end.Commit ∷ [];
  } ∷ [];
}

abbrev pub seven_records_text : List ℕ
seven_records_text = codes "{\"job\":\"j\",\"status\":\"COMPLETED\",\"steps\":[{\"heard\":[[\"0:2:2\",\"0:3:3\",\"0:3:3:end\",\"COMPLETED\"],[\"1:5:2\",\"1:5:2:end\",\"COMPLETED\"],[\"2:7:2\",\"2:7:2:end\",\"COMPLETED\"]],\"outputs\":[[\"xa\",\"xb\",\"xc\"],[\"xd\",\"xe\"],[\"xf\",\"xg\"]],\"plans\":[[\"Longest(0)\",2,2]],\"reducer\":[\"begin\",\"before\",\"after COMMIT\"],\"saved\":{\"rows\":[[0,3,3,0,0,3,3,3,2,0,0,0,0,0,0,\"done\"],[3,5,5,3,0,2,2,2,1,0,0,0,0,0,0,\"done\"],[5,7,7,5,0,2,2,2,1,0,0,0,0,0,0,\"done\"]],\"step\":\"s\",\"version\":2},\"status\":\"COMPLETED\",\"step\":\"s\"}]}\n"

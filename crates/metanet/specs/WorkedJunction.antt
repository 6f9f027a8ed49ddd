-- A worked list of a junction of seven segments: three freeways meet in segment 4, which parts into 5 and 6; these meet in 7.
--
--     1 ─┐         ┌─ 5 ─┐
--     2 ─┼─ 4 ─────┤     ├─ 7
--     3 ─┘         └─ 6 ─┘
use Rattle.std.specs.Prelude.{ℕ, ◌-◌, ◌*◌, [], ◌∷◌, pos, neg_ℤ}
use Rattle.laws.specs.Lists.{table}
use Rattle.format.specs.declared.Segment.{Segment}
use Rattle.format.specs.Network.{Network}
use Rattle.metanet.specs.declared.Setting.TheVariants.{Alinea}
use Rattle.metanet.specs.Line.{signed, metered, stepped}
use Rattle.metanet.specs.Worked.{WorkedList}

-- L, H, C and J; origin and Q; X; first and second following segment and the share to the first
abbrev pub road : ℕ → ℕ → ℕ → ℕ → ℕ → ℕ → ℕ → ℕ → ℕ → ℕ → Segment
road L H C J origin Q X first second share =
    record { metres = L; lanes = H; curve = 0; critical = C; jam = J; origin = origin; exit = X; most = Q; following = record { first = first; second = second; share = share } }

-- T 10, τ 18, ν 60, κ 40, δ 122; one curve, entry j is 100,000 − 450 j
abbrev pub junction_network : Network
junction_network =
    record {
      head = record { version = 2; step = 10; size = 7; curves = 1; tau = 18; nu = 60; kappa = 40; delta = 122 };
      curves = table (λ j. 100000 - 450 * j) 201 ∷ [];
      segments =
          road 500 2 30 180 1 30000 0 4 0 1000
          ∷ road 700 1 28 170 1 40000 0 4 0 1000
          ∷ road 600 2 30 180 1 12000 0 4 0 1000
          ∷ road 300 3 30 180 1 60000 120 5 6 617
          ∷ road 600 2 30 180 0 0 150 7 0 1000
          ∷ road 400 1 30 180 0 0 0 7 0 1000
          ∷ road 300 2 30 180 0 0 0 0 0 1000
          ∷ [];
    }

-- three segments enter one, a parting with an exit before it, a segment from which nothing flows; mainstream origins bounded by speed
unfoldable pub junction_list : WorkedList
junction_list =
    record {
      network = junction_network;
      mvs = 60000 ∷ 51310 ∷ 22334 ∷ 46301 ∷ 0 ∷ 0 ∷ 36757 ∷ [];
      speeds = 40501 ∷ 29318 ∷ 44634 ∷ 76930 ∷ 61000 ∷ 90000 ∷ 56023 ∷ [];
      queues = 200000 ∷ 80000 ∷ 1000 ∷ 60000 ∷ 0 ∷ 0 ∷ 0 ∷ [];
      steps =
          record {
            items = signed 2 20 (neg_ℤ (pos 50)) ∷ signed 6 50 (pos 0) ∷ stepped (9000 ∷ 4500 ∷ 1700 ∷ 900 ∷ 0 ∷ 0 ∷ 0 ∷ []) ∷ [];
            totals = 1 ∷ 286471 ∷ 264307 ∷ 16100 ∷ 23024 ∷ 5577020 ∷ [];
            segments =
                (76200 ∷ 64258 ∷ 0x40ef605ed097b426 ∷ 179300 ∷ 13500 ∷ 29700 ∷ 30000 ∷ [])
                ∷ (54313 ∷ 32771 ∷ 0x40e000609ba9c6a9 ∷ 75528 ∷ 5969 ∷ 8972 ∷ 40000 ∷ [])
                ∷ (20419 ∷ 39618 ∷ 0x40e358431ff9f3b8 ∷ 0 ∷ 4615 ∷ 2700 ∷ 12000 ∷ [])
                ∷ (88826 ∷ 100000 ∷ 0x40f86a0000000000 ∷ 9479 ∷ 32980 ∷ 51421 ∷ 60000 ∷ [])
                ∷ (17907 ∷ 2079 ∷ 0x40a03f897b425ee0 ∷ 0 ∷ 0 ∷ 0 ∷ 0 ∷ [])
                ∷ (11116 ∷ 1000 ∷ 0x408f400000000000 ∷ 0 ∷ 0 ∷ 0 ∷ 0 ∷ [])
                ∷ (17690 ∷ 99441 ∷ 0x40f8471a737fec2a ∷ 0 ∷ 19067 ∷ 0 ∷ 0 ∷ [])
                ∷ [];
            unreported = (0 ∷ 0 ∷ 600000 ∷ []) ∷ (0 ∷ 0 ∷ 1185800 ∷ []) ∷ (0 ∷ 0 ∷ 157560 ∷ []) ∷ (0 ∷ 0 ∷ 959300 ∷ []) ∷ (0 ∷ 0 ∷ 0 ∷ []) ∷ (0 ∷ 0 ∷ 0 ∷ []) ∷ (0 ∷ 0 ∷ 14110 ∷ []) ∷ [];
          }
          ∷ record {
            items = metered 4 (Alinea 45 1602 200 2) ∷ signed 1 20 (neg_ℤ (pos 500)) ∷ stepped (8000 ∷ 5500 ∷ 900 ∷ 100 ∷ 0 ∷ 0 ∷ 0 ∷ []) ∷ [];
            totals = 2 ∷ 289740 ∷ 249356 ∷ 30600 ∷ 49206 ∷ 11084800 ∷ [];
            segments =
                (58998 ∷ 21208 ∷ 0x40d4b63775c5b9ce ∷ 177300 ∷ 27202 ∷ 10000 ∷ 30000 ∷ [])
                ∷ (56222 ∷ 16573 ∷ 0x40d02f654c6e627a ∷ 72056 ∷ 7063 ∷ 8972 ∷ 40000 ∷ [])
                ∷ (17574 ∷ 1000 ∷ 0x408f400000000000 ∷ 0 ∷ 3745 ∷ 900 ∷ 12000 ∷ [])
                ∷ (54168 ∷ 94035 ∷ 0x40f6f53afc53dc56 ∷ 0 ∷ 82247 ∷ 9579 ∷ 60000 ∷ [])
                ∷ (62392 ∷ 38963 ∷ 0x40e3066df5cd9e01 ∷ 0 ∷ 172 ∷ 0 ∷ 0 ∷ [])
                ∷ (38760 ∷ 26828 ∷ 0x40da3308581d818a ∷ 0 ∷ 77 ∷ 0 ∷ 0 ∷ [])
                ∷ (1626 ∷ 2427 ∷ 0x40a2f60c40fa1240 ∷ 0 ∷ 16288 ∷ 0 ∷ 0 ∷ [])
                ∷ [];
            unreported = (0 ∷ 0 ∷ 1596000 ∷ []) ∷ (0 ∷ 0 ∷ 1339030 ∷ []) ∷ (0 ∷ 0 ∷ 556980 ∷ []) ∷ (88826 ∷ 1 ∷ 199300 ∷ []) ∷ (0 ∷ 0 ∷ 766530 ∷ []) ∷ (0 ∷ 0 ∷ 280000 ∷ []) ∷ (0 ∷ 0 ∷ 87010 ∷ []) ∷ [];
          }
          ∷ record {
            items = signed 1 60 (neg_ℤ (pos 50)) ∷ stepped (7000 ∷ 0 ∷ 2500 ∷ 400 ∷ 0 ∷ 0 ∷ 0 ∷ []) ∷ [];
            totals = 3 ∷ 312001 ∷ 229612 ∷ 40500 ∷ 56589 ∷ 16475760 ∷ [];
            segments =
                (72664 ∷ 40292 ∷ 0x40e3ac8ba9cf99a7 ∷ 163682 ∷ 6952 ∷ 20618 ∷ 30000 ∷ [])
                ∷ (60350 ∷ 25888 ∷ 0x40d948347feea397 ∷ 64230 ∷ 3698 ∷ 7826 ∷ 40000 ∷ [])
                ∷ (18493 ∷ 6038 ∷ 0x40b79637b51eaba0 ∷ 1500 ∷ 81 ∷ 1000 ∷ 12000 ∷ [])
                ∷ (17936 ∷ 1000 ∷ 0x408f400000000000 ∷ 200 ∷ 47163 ∷ 200 ∷ 200 ∷ [])
                ∷ (76745 ∷ 99571 ∷ 0x40f84f334ff13b56 ∷ 0 ∷ 11254 ∷ 0 ∷ 0 ∷ [])
                ∷ (47436 ∷ 100000 ∷ 0x40f86a0000000000 ∷ 0 ∷ 7221 ∷ 0 ∷ 0 ∷ [])
                ∷ (18377 ∷ 56671 ∷ 0x40ebabe6972de1b8 ∷ 0 ∷ 36 ∷ 0 ∷ 0 ∷ [])
                ∷ [];
            unreported = (0 ∷ 0 ∷ 291840 ∷ []) ∷ (0 ∷ 0 ∷ 51090 ∷ []) ∷ (0 ∷ 0 ∷ 1336980 ∷ []) ∷ (54168 ∷ 1 ∷ 1038100 ∷ []) ∷ (0 ∷ 0 ∷ 1921490 ∷ []) ∷ (0 ∷ 0 ∷ 572800 ∷ []) ∷ (0 ∷ 0 ∷ 670030 ∷ []) ∷ [];
          }
          ∷ record {
            items = stepped (7000 ∷ 0 ∷ 2500 ∷ 400 ∷ 0 ∷ 0 ∷ 0 ∷ []) ∷ [];
            totals = 4 ∷ 339751 ∷ 196793 ∷ 50400 ∷ 71558 ∷ 21891890 ∷ [];
            segments =
                (85946 ∷ 80779 ∷ 0x40f3b8b549ee455a ∷ 141135 ∷ 16265 ∷ 29547 ∷ 30000 ∷ [])
                ∷ (63123 ∷ 47070 ∷ 0x40e6fbcac565b97e ∷ 55258 ∷ 6199 ∷ 8972 ∷ 40000 ∷ [])
                ∷ (21976 ∷ 49856 ∷ 0x40e8581498e174d8 ∷ 0 ∷ 517 ∷ 4000 ∷ 12000 ∷ [])
                ∷ (40950 ∷ 1000 ∷ 0x408f400000000000 ∷ 400 ∷ 167 ∷ 200 ∷ 200 ∷ [])
                ∷ (41457 ∷ 56191 ∷ 0x40eb6ffb5b6f1b77 ∷ 0 ∷ 35378 ∷ 0 ∷ 0 ∷ [])
                ∷ (14551 ∷ 47823 ∷ 0x40e759e603027755 ∷ 0 ∷ 32942 ∷ 0 ∷ 0 ∷ [])
                ∷ (71748 ∷ 96693 ∷ 0x40f79b5b58cd664f ∷ 0 ∷ 9643 ∷ 0 ∷ 0 ∷ [])
                ∷ [];
            unreported = (0 ∷ 0 ∷ 1070720 ∷ []) ∷ (0 ∷ 0 ∷ 1979090 ∷ []) ∷ (0 ∷ 0 ∷ 1224320 ∷ []) ∷ (72104 ∷ 2 ∷ 38100 ∷ []) ∷ (0 ∷ 0 ∷ 1205440 ∷ []) ∷ (0 ∷ 0 ∷ 92800 ∷ []) ∷ (0 ∷ 0 ∷ 659700 ∷ []) ∷ [];
          }
          ∷ record {
            items = stepped (7000 ∷ 0 ∷ 2500 ∷ 400 ∷ 0 ∷ 0 ∷ 0 ∷ []) ∷ [];
            totals = 5 ∷ 316125 ∷ 164421 ∷ 60300 ∷ 137456 ∷ 27257330 ∷ [];
            segments =
                (77376 ∷ 88977 ∷ 0x40f5b91c44783533 ∷ 118135 ∷ 38570 ∷ 30000 ∷ 30000 ∷ [])
                ∷ (60304 ∷ 47818 ∷ 0x40e7594b13b96aee ∷ 46286 ∷ 11791 ∷ 8972 ∷ 40000 ∷ [])
                ∷ (19404 ∷ 47234 ∷ 0x40e710592ca74f2a ∷ 0 ∷ 5072 ∷ 2500 ∷ 12000 ∷ [])
                ∷ (96804 ∷ 58283 ∷ 0x40ec756b0a91855c ∷ 0 ∷ 379 ∷ 800 ∷ 8117 ∷ [])
                ∷ (30878 ∷ 1000 ∷ 0x408f400000000000 ∷ 0 ∷ 10785 ∷ 0 ∷ 0 ∷ [])
                ∷ (9847 ∷ 1000 ∷ 0x408f400000000000 ∷ 0 ∷ 4832 ∷ 0 ∷ 0 ∷ [])
                ∷ (21512 ∷ 92427 ∷ 0x40f690b8c20c969f ∷ 0 ∷ 64236 ∷ 0 ∷ 0 ∷ [])
                ∷ [];
            unreported = (0 ∷ 0 ∷ 1390060 ∷ []) ∷ (0 ∷ 0 ∷ 655190 ∷ []) ∷ (0 ∷ 0 ∷ 2058880 ∷ []) ∷ (40950 ∷ 1 ∷ 218100 ∷ []) ∷ (0 ∷ 0 ∷ 708310 ∷ []) ∷ (0 ∷ 0 ∷ 737530 ∷ []) ∷ (0 ∷ 0 ∷ 1073340 ∷ []) ∷ [];
          }
          ∷ [];
    }
